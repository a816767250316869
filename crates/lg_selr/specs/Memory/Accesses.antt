-- The code of loads and stores: the address is computed into the link, or is a register and an offset of 12 bits. The processor refuses a row of several
-- bytes where the address is no multiple of their number. Where it is known to be one, the row stands alone; else its low bits are tested, and the row is
-- executed where they are 0, or the bytes go one by one, from the address in the link.
use Rattle.std.specs.Prelude.{ℕ, zero, suc, ◌+◌, ◌-◌, ◌*◌, ◌%◌, ◌==◌, ◌||◌, ◌&&◌, nat_lt, Bool, true, false, if◌then◌else◌, ℤ, pos, List, [], ◌∷◌, ◌++◌}
use Rattle.lg_base.specs.declared.target.Target.TheVariants.{Riscv64}
use Rattle.lg_op.specs.declared.node.Node.{Node}
use Rattle.lg_op.specs.declared.op.ValueType.{ValueType}
use Rattle.lg_op.specs.declared.op.ValueType.TheVariants as value_type
use Rattle.lg_op.specs.declared.op.StoreType.{StoreType}
use Rattle.lg_op.specs.declared.op.StoreType.TheVariants as store_type
use Rattle.lg_op.specs.declared.operand.Reg.{Reg}
use Rattle.lg_op.specs.declared.operand.Reg.TheVariants.{Fp}
use Rattle.lg_op.specs.declared.op.Addressing.{Addressing}
use Rattle.lg_op.specs.declared.operand.Operand.{Operand}
use Rattle.lg_rv.specs.declared.instruction.Instr.{Instr}
use Rattle.lg_rv.specs.declared.instruction.Instr.TheVariants as instr
use Rattle.lg_rv.specs.declared.instruction.ImmOp.{ImmOp}
use Rattle.lg_rv.specs.declared.instruction.ImmOp.TheVariants as imm
use Rattle.lg_rv.specs.declared.instruction.ShiftOp.TheVariants as shift
use Rattle.lg_rv.specs.declared.instruction.StoreOp.{StoreOp}
use Rattle.lg_rv.specs.declared.instruction.StoreOp.TheVariants as row
use Rattle.lg_rv.specs.declared.instruction.BranchOp.TheVariants as branch
use Rattle.lg_rv.specs.declared.instruction.UpperOp.TheVariants.{Lui}
use Rattle.lg_rv.specs.declared.instruction.RegOp.TheVariants as reg
use Rattle.lg_op.specs.Operators.{width, store_width}
use Rattle.lg_temp.specs.Abis.{register_of}
use Rattle.lg_temp.specs.declared.choice.Choice.{Choice}
use Rattle.lg_temp.specs.declared.choice.Need.{Need}
use Rattle.lg_temp.specs.declared.choice.Need.TheVariants.{Any}
use Rattle.lg_meaning.specs.Steps.{operand_at, stored_operand}
use Rattle.lg_carry.specs.Memory.Accesses.{Address, Base, At, Sum, Index, address_of}
use Rattle.lg_carry.specs.Memory.Operands.{named}
use Rattle.lg_selr_values.specs.Processor.Numbers.{is_short, high_part, low_part, number_code}
use Rattle.lg_selr_values.specs.declared.items.Item.{Item}
use Rattle.lg_selr_values.specs.Items.{ones}
use Rattle.lg_carry.specs.Values.Parts.{first_taken}
use Rattle.lg_selr_values.specs.ValueItems.{saved_items}

-- the link holds nothing that is needed after a `prolog`, so it takes addresses
abbrev pub link : ℕ
link = 1

-- the register that an operand names
abbrev pub register : Operand → ℕ
register x = register_of Riscv64 (named x)

-- the row that loads by a type, and the one that stores by a type
abbrev pub load_row : ValueType → ImmOp
load_row value_type.Char = imm.Lb
load_row value_type.UnsignedChar = imm.Lbu
load_row value_type.Short = imm.Lh
load_row value_type.UnsignedShort = imm.Lhu
load_row value_type.Int = imm.Lw
load_row value_type.UnsignedInt = imm.Lwu
load_row value_type.Long = imm.Ld

-- the row that loads the highest byte by a type
abbrev pub high_row : ValueType → ImmOp
high_row value_type.Char = imm.Lb
high_row value_type.Short = imm.Lb
high_row value_type.Int = imm.Lb
high_row t = imm.Lbu

-- how an address is made: by instructions that compute it, and then as a register and an offset
pub record Place : Type 0 where
  pub code : List Instr
  pub base : ℕ
  pub offset : ℤ

abbrev pub at_register : ℕ → Place
at_register a = record { code = []; base = a; offset = pos 0 }

abbrev pub at_link : List Instr → Place
at_link code = record { code = code; base = link; offset = pos 0 }

-- whether an address is known to be a multiple of this many bytes: FP is one of 16, and a number is what it is
abbrev pub is_frame : Reg → Bool
is_frame Fp = true
is_frame r = false

abbrev pub is_whole : ℕ → Address → Bool
is_whole w (Base a) = (w == 1) || is_frame a
is_whole w (At v) = v % w == 0
is_whole w (Sum a b) = w == 1
is_whole w (Index a v) = (w == 1) || (is_frame a && (v % w == 0))

-- a register and a number: an offset where the number is near and a multiple of the width, and else their sum in the link
abbrev pub near : ℕ → ℕ → ℕ → Place
near w a v = if v % w == 0 then record { code = []; base = a; offset = low_part v } else at_link (instr.Imm imm.Addi link a (low_part v) ∷ [])

abbrev pub indexed : ℕ → ℕ → ℕ → Place
indexed w a v = if is_short v then near w a v else at_link (number_code link v ++ instr.Reg reg.Add link a link ∷ [])

-- a number: its high part in the link, where the rest is an offset that is a multiple of the width
abbrev pub is_low : ℕ → ℕ → Bool
is_low w v = nat_lt v 0x7FFFF800 && (v % w == 0)

abbrev pub absolute : ℕ → ℕ → Place
absolute w v = if is_low w v then record { code = instr.Upper Lui link (high_part v) ∷ []; base = link; offset = low_part v } else at_link (number_code link v)

-- an address of this many bytes
abbrev pub place_of : ℕ → Address → Place
place_of w (Base a) = at_register (register_of Riscv64 a)
place_of w (At v) = absolute w v
place_of w (Sum a b) = at_link (instr.Reg reg.Add link (register_of Riscv64 a) (register_of Riscv64 b) ∷ [])
place_of w (Index a v) = indexed w (register_of Riscv64 a) v

-- the k lowest bytes at the link's address, from the highest of them on, each after those that d has; u is a temporary
abbrev pub lower_bytes : ℕ → ℕ → ℕ → List Instr
lower_bytes d u zero = []
lower_bytes d u (suc k) = instr.Shift shift.Slli d d 8 ∷ instr.Imm imm.Lbu u link (pos k) ∷ instr.Reg reg.Add d d u ∷ lower_bytes d u k

-- the k bytes from byte n on at the link's address become those of a register after its lowest one
abbrev pub higher_bytes : ℕ → ℕ → ℕ → ℕ → List Instr
higher_bytes from u n zero = []
higher_bytes from u n (suc k) = instr.Shift shift.Srli u from 8 ∷ instr.Store row.Sb link u (pos n) ∷ higher_bytes u u (n + 1) k

-- the low bits of a base go into the link, or into a temporary where the link is the base
abbrev pub tester : ℕ → ℕ → ℕ
tester u base = if base == 1 then u else link

-- the test of those of an access so wide: where they are 0, a branch leads this many bytes further
abbrev pub test_code : ℕ → ℕ → ℕ → ℤ → List Instr
test_code u base w skip = instr.Imm imm.Andi (tester u base) base (pos (w - 1)) ∷ instr.Branch branch.Beq (tester u base) 0 skip ∷ []

-- where they are 0 a row is executed, and else what is slow, over which the branch of the test leads
abbrev pub fork : ℕ → ℕ → ℕ → ℕ → List Instr → Instr → List Instr
fork u base w skip slow fast = test_code u base w (pos skip) ++ (slow ++ (instr.Branch branch.Beq 0 0 (pos 8) ∷ fast ∷ []))

-- d = what is at a register and an offset, byte by byte
abbrev pub slow_load : ValueType → ℕ → ℕ → ℕ → ℤ → List Instr
slow_load t d u base offset = instr.Imm imm.Addi link base offset ∷ instr.Imm (high_row t) d link (pos (width t - 1)) ∷ lower_bytes d u (width t - 1)

abbrev pub load_at : Bool → ValueType → ℕ → ℕ → ℕ → ℤ → List Instr
load_at whole t d u base offset =
    if whole then instr.Imm (load_row t) d base offset ∷ []
    else fork u base (width t) (12 * width t + 4) (slow_load t d u base offset) (instr.Imm (load_row t) d base offset)

-- a register's low bytes go there
abbrev pub store_row : StoreType → StoreOp
store_row store_type.Char = row.Sb
store_row store_type.Short = row.Sh
store_row store_type.Int = row.Sw
store_row store_type.Long = row.Sd

-- eight bytes by six stores, so that with the row there are no more than seven: the lowest and the two highest bytes, and three halves from the even
-- address among the first two on
abbrev pub halves : ℕ → ℕ → List Instr
halves v u =
    instr.Store row.Sb link v (pos 0)
    ∷ instr.Shift shift.Srli u v 48 ∷ instr.Store row.Sb link u (pos 6)
    ∷ instr.Shift shift.Srli u u 8 ∷ instr.Store row.Sb link u (pos 7)
    ∷ instr.Imm imm.Andi u link (pos 1) ∷ instr.Reg reg.Add link link u ∷ instr.Shift shift.Slli u u 3 ∷ instr.Reg reg.Srl u v u
    ∷ instr.Store row.Sh link u (pos 0) ∷ instr.Shift shift.Srli u u 16 ∷ instr.Store row.Sh link u (pos 2)
    ∷ instr.Shift shift.Srli u u 16 ∷ instr.Store row.Sh link u (pos 4) ∷ []

abbrev pub store_bytes : StoreType → ℕ → ℕ → List Instr
store_bytes store_type.Long v u = halves v u
store_bytes t v u = instr.Store row.Sb link v (pos 0) ∷ higher_bytes v u 1 (store_width t - 1)

abbrev pub slow_store : StoreType → ℕ → ℕ → ℕ → ℤ → List Instr
slow_store t v u base offset = instr.Imm imm.Addi link base offset ∷ store_bytes t v u

-- a branch over these leads this many bytes further
abbrev pub store_skip : StoreType → ℕ
store_skip store_type.Char = 16
store_skip store_type.Short = 24
store_skip store_type.Int = 40
store_skip store_type.Long = 68

abbrev pub store_at : Bool → StoreType → ℕ → ℕ → ℕ → ℤ → List Instr
store_at whole t v u base offset =
    if whole then instr.Store (store_row t) base v offset ∷ []
    else fork u base (store_width t) (store_skip t) (slow_store t v u base offset) (instr.Store (store_row t) base v offset)

abbrev pub loading : ValueType → ℕ → ℕ → Address → List Instr
loading t d u at = (place_of (width t) at).code ++ load_at (is_whole (width t) at) t d u (place_of (width t) at).base (place_of (width t) at).offset

abbrev pub storing : StoreType → ℕ → ℕ → Address → List Instr
storing t v u at =
    (place_of (store_width t) at).code ++ store_at (is_whole (store_width t) at) t v u (place_of (store_width t) at).base (place_of (store_width t) at).offset

-- an access of several bytes needs a temporary
abbrev pub access_needs : ℕ → List Need
access_needs bytes = if bytes == 1 then [] else Any ∷ []

-- the code of a load and of a store of a node, with a temporary
abbrev pub load_code : ValueType → Addressing → Node → ℕ → List Instr
load_code t at n u = loading t (register (operand_at n 0)) u (address_of at (operand_at n 1) (operand_at n 2))

abbrev pub store_code : StoreType → Addressing → Node → ℕ → List Instr
store_code t at n u = storing t (register (operand_at n (stored_operand at))) u (address_of at (operand_at n 0) (operand_at n 1))

-- their items, with each register that is saved
abbrev pub load_items : ValueType → Addressing → Node → List Choice → List Item
load_items t at n choices = saved_items choices (ones (load_code t at n (first_taken choices)))

abbrev pub store_items : StoreType → Addressing → Node → List Choice → List Item
store_items t at n choices = saved_items choices (ones (store_code t at n (first_taken choices)))
