-- The addresses of loads and stores.
use Rattle.lg_carry.specs.Processors.{IsOff, is_below}
use Rattle.std.specs.Prelude.{ℕ, ◌^◌, ◌<◌}
use Rattle.lg_base.specs.Words.{add_words}
use Rattle.lg_base.specs.declared.target.Target.{Target}
use Rattle.lg_op.specs.declared.op.Addressing.{Addressing}
use Rattle.lg_op.specs.declared.op.Addressing.TheVariants as addressing
use Rattle.lg_op.specs.declared.operand.Operand.{Operand}
use Rattle.lg_op.specs.declared.operand.Operand.TheVariants as operand
use Rattle.lg_op.specs.declared.operand.Reg.{Reg}
use Rattle.lg_temp.specs.Abis.{register_of}
use Rattle.lg_carry.specs.Memory.Operands.{named, number}

-- a register, a number, the sum of two registers, or that of a register and a number
pub data Address : Type 0 where
  Base : (a : Reg) → Address
  At : (v : ℕ) → Address
  Sum : (a b : Reg) → Address
  Index : (a : Reg) (v : ℕ) → Address

-- the address that operands give, by how a node names it
abbrev pub address_of : Addressing → Operand → Operand → Address
address_of addressing.Register x y = Base (named x)
address_of addressing.Immediate x y = At (number x)
address_of addressing.RegisterRegister x y = Sum (named x) (named y)
address_of addressing.RegisterImmediate (operand.Reg r) y = Index r (number y)
address_of addressing.RegisterImmediate x y = Index (named y) (number x)

-- its word
abbrev pub address_word : Target → (ℕ → ℕ) → Address → ℕ
address_word target w (Base a) = w (register_of target a)
address_word target w (At v) = v
address_word target w (Sum a b) = add_words (w (register_of target a)) (w (register_of target b))
address_word target w (Index a v) = add_words (w (register_of target a)) v

-- none of this many bytes from an address on lies below the stack pointer and its zone
abbrev pub LiesAbove : Target → ℕ → ℕ → ℕ → Type 0
LiesAbove target stack a w = IsOff (is_below target stack) record { from = a; width = w }

-- its number is a word
abbrev pub IsAddress : Address → Type 0
IsAddress (Base a) = Unit {0}
IsAddress (At v) = v < 2 ^ 64
IsAddress (Sum a b) = Unit {0}
IsAddress (Index a v) = v < 2 ^ 64
