-- `prolog`: the stack pointer falls by the size of the frame, or first by this much of it that the frame's words lie near; the return address, the caller's
-- frame pointer, those of V0, V1 and V2 that the code saves and the register arguments that are read are stored above it, FP is set, and the stack pointer
-- falls by what is left.
use Rattle.std.specs.Prelude.{ℕ, ◌+◌, ◌-◌, ◌*◌, nat_le, pos, negsuc, List, [], ◌∷◌, ◌++◌, if◌then◌else◌}
use Rattle.lg_base.specs.declared.target.Target.TheVariants.{Riscv64}
use Rattle.lg_rv.specs.declared.instruction.Instr.{Instr}
use Rattle.lg_rv.specs.declared.instruction.Instr.TheVariants as instr
use Rattle.lg_rv.specs.declared.instruction.ImmOp.TheVariants.{Addi, Addiw}
use Rattle.lg_rv.specs.declared.instruction.RegOp.TheVariants.{Sub}
use Rattle.lg_rv.specs.declared.instruction.StoreOp.TheVariants.{Sd}
use Rattle.lg_rv.specs.declared.instruction.UpperOp.TheVariants.{Lui}
use Rattle.lg_selr_values.specs.Processor.Numbers.{high_part, low_part}
use Rattle.lg_sel.specs.Control.Stores as stores

-- the registers that a `prolog` stores: the link, FP and those of V0, V1 and V2, of this many, from word 0 on
abbrev pub first_registers : ℕ → List ℕ
first_registers saved = stores.first_registers Riscv64 1 saved

-- and those of the first arguments, of this many, from word 5 on
abbrev pub home_registers : ℕ → List ℕ
home_registers homes = stores.home_registers Riscv64 homes

-- one is stored in word k below the caller's stack pointer, where the stack pointer has fallen by this many bytes
abbrev pub store_word : ℕ → ℕ → ℕ → Instr
store_word first r k = instr.Store Sd 2 r (pos (first - (8 + 8 * k)))

-- each is stored below the one before, from word k on
abbrev pub stores_below : ℕ → List ℕ → ℕ → List Instr
stores_below first rs k = stores.stores_below (store_word first) rs k

-- the stack pointer falls by this many bytes
abbrev pub fall_code : ℕ → List Instr
fall_code n = if nat_le n 2048 then instr.Imm Addi 2 2 (negsuc (n - 1)) ∷ [] else instr.Upper Lui 1 (high_part n) ∷ instr.Imm Addiw 1 1
    (low_part n) ∷ instr.Reg Sub 2 2 1 ∷ []

-- a frame of at most 2,048 bytes is made at once, and a larger one in two falls
abbrev pub framed_code : ℕ → ℕ → ℕ → List Instr → List Instr
framed_code saved first homes rest =
    instr.Imm Addi 2 2 (negsuc (first - 1)) ∷ (stores_below first (first_registers saved) 0
    ++ (stores_below first (home_registers homes) 5 ++ (instr.Imm Addi 8 2 (pos (first - 16)) ∷ rest)))

-- with this many of V0 to V2 and this many homes
abbrev pub prolog_code : ℕ → ℕ → ℕ → List Instr
prolog_code saved size homes =
    if nat_le size 2048 then framed_code saved size homes [] else framed_code saved 2048 homes (fall_code (size - 2048))
