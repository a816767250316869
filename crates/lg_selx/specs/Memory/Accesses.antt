-- The code of loads and stores: the address is a register and a number of 32 bits, or is computed into a spare register first; one row loads or stores. A
-- load's spare register is made again where it is FP, and a store's is a temporary. Moves and `lea` alone compute: no flag changes.
use Rattle.std.specs.Prelude.{ℕ, ◌==◌, Bool, true, false, if◌then◌else◌, ℤ, pos, List, [], ◌∷◌, ◌++◌}
use Rattle.lg_base.specs.Words.{signed_view, is_half}
use Rattle.lg_base.specs.declared.target.Target.TheVariants.{X86_64}
use Rattle.lg_op.specs.declared.node.Node.{Node}
use Rattle.lg_op.specs.declared.op.ValueType.{ValueType}
use Rattle.lg_op.specs.declared.op.ValueType.TheVariants as value_type
use Rattle.lg_op.specs.declared.op.StoreType.{StoreType}
use Rattle.lg_op.specs.declared.op.StoreType.TheVariants as store_type
use Rattle.lg_op.specs.declared.op.Addressing.{Addressing}
use Rattle.lg_op.specs.declared.op.Addressing.TheVariants as addressing
use Rattle.lg_op.specs.declared.operand.Operand.{Operand}
use Rattle.lg_x86.specs.declared.instruction.Instr.{Instr}
use Rattle.lg_x86.specs.declared.instruction.Instr.TheVariants as instr
use Rattle.lg_x86.specs.declared.instruction.LoadOp.{LoadOp}
use Rattle.lg_x86.specs.declared.instruction.LoadOp.TheVariants.{Ld64, Ld32u, Ld32s, Ld8u, Ld16u, Ld8s, Ld16s}
use Rattle.lg_x86.specs.declared.instruction.StoreOp.{StoreOp}
use Rattle.lg_x86.specs.declared.instruction.StoreOp.TheVariants.{St64, St32, St16, St8}
use Rattle.lg_temp.specs.Abis.{register_of}
use Rattle.lg_temp.specs.declared.choice.Choice.{Choice}
use Rattle.lg_temp.specs.declared.choice.Need.{Need}
use Rattle.lg_temp.specs.declared.choice.Need.TheVariants.{Any}
use Rattle.lg_meaning.specs.Steps.{operand_at, stored_operand}
use Rattle.lg_carry.specs.Memory.Accesses.{Address, Base, At, Sum, Index, address_of}
use Rattle.lg_carry.specs.Memory.Loads.{LoadCode}
use Rattle.lg_carry.specs.Memory.Operands.{named}
use Rattle.lg_carry.specs.Values.Parts.{first_taken}
use Rattle.lg_selx_values.specs.Processor.Numbers.{number_row}
use Rattle.lg_selx_values.specs.declared.items.Item.{Item}
use Rattle.lg_selx_values.specs.Items.{ones}
use Rattle.lg_selx_values.specs.Scratch.{again}
use Rattle.lg_selx_values.specs.ValueItems.{saved_items}

-- the register that an operand names
abbrev pub register : Operand → ℕ
register x = register_of X86_64 (named x)

-- the row that loads by a type, and the one that stores by a type
abbrev pub load_row : ValueType → LoadOp
load_row value_type.Char = Ld8s
load_row value_type.UnsignedChar = Ld8u
load_row value_type.Short = Ld16s
load_row value_type.UnsignedShort = Ld16u
load_row value_type.Int = Ld32s
load_row value_type.UnsignedInt = Ld32u
load_row value_type.Long = Ld64

abbrev pub store_row : StoreType → StoreOp
store_row store_type.Char = St8
store_row store_type.Short = St16
store_row store_type.Int = St32
store_row store_type.Long = St64

-- how an address is made: by instructions that compute it, and then as a register and a number; and whether that register is a spare one
pub record Place : Type 0 where
  pub code : List Instr
  pub base : ℕ
  pub disp : ℤ
  pub spare : Bool

abbrev pub at_register : ℕ → ℤ → Place
at_register a disp = record { code = []; base = a; disp = disp; spare = false }

abbrev pub at_spare : ℕ → List Instr → Place
at_spare t code = record { code = code; base = t; disp = pos 0; spare = true }

-- a register and a number: the row holds a number of 32 bits, and else their sum is in the spare register
abbrev pub indexed : ℕ → ℕ → ℕ → Place
indexed t a v = if is_half v then at_register a (signed_view v) else at_spare t (number_row t v ∷ instr.Lea2 t t a ∷ [])

-- an address, by a spare register
abbrev pub place_of : ℕ → Address → Place
place_of t (Base a) = at_register (register_of X86_64 a) (pos 0)
place_of t (At v) = at_spare t (number_row t v ∷ [])
place_of t (Sum a b) = at_spare t (instr.Lea2 t (register_of X86_64 a) (register_of X86_64 b) ∷ [])
place_of t (Index a v) = indexed t (register_of X86_64 a) v

-- FP, rbp, 5, is made again from the stack pointer, where it is the spare register. Any other held nothing that is needed
abbrev pub remade : ℕ → ℕ → List Instr
remade frame t = if t == 5 then again frame else []

abbrev pub behind : ℕ → Place → List Instr
behind frame p = if p.spare then remade frame p.base else []

-- a number is added to this register of an address, which is read after the number
abbrev pub indexes : ℕ → Address → Bool
indexes r (Index a v) = register_of X86_64 a == r
indexes r at = false

-- the spare register of a load is the one that is loaded, and FP where a number is added to that one
abbrev pub load_spare : ℕ → Address → ℕ
load_spare d at = if indexes d at then 5 else d

abbrev pub loading : ℕ → ValueType → ℕ → Place → List Instr
loading frame t d p = p.code ++ instr.Load (load_row t) d p.base p.disp ∷ behind frame p

abbrev pub storing : StoreType → ℕ → Place → List Instr
storing t from p = p.code ++ instr.Store (store_row t) p.base p.disp from ∷ []

-- the code of a load, in a frame of this many bytes, and that of a store, with a temporary as the spare register
abbrev pub load_into : ℕ → ValueType → ℕ → Address → List Instr
load_into frame t d at = loading frame t d (place_of (load_spare d at) at)

abbrev pub store_from : StoreType → ℕ → ℕ → Address → List Instr
store_from t from u at = storing t from (place_of u at)

abbrev pub x86_load : LoadCode Instr
x86_load frame t d at = load_into frame t (register_of X86_64 d) at

-- a store needs a temporary, but at an address that is a register
abbrev pub store_needs : Addressing → List Need
store_needs addressing.Register = []
store_needs at = Any ∷ []

-- that of a node
abbrev pub load_code : ℕ → ValueType → Addressing → Node → List Instr
load_code frame t at n = load_into frame t (register (operand_at n 0)) (address_of at (operand_at n 1) (operand_at n 2))

abbrev pub store_code : StoreType → Addressing → Node → ℕ → List Instr
store_code t at n u = store_from t (register (operand_at n (stored_operand at))) u (address_of at (operand_at n 0) (operand_at n 1))

-- the items of a store, with the register that is saved
abbrev pub store_items : StoreType → Addressing → Node → List Choice → List Item
store_items t at n choices = saved_items choices (ones (store_code t at n (first_taken choices)))
