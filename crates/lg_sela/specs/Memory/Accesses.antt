-- The code of loads and stores: the address is computed into the link, or is a register and a number of accesses of 12 bits, and one row loads or stores.
-- A word has a row for a register and a number of bytes, too, and to load it one for two registers.
use Rattle.std.specs.Prelude.{ℕ, ◌+◌, ◌/◌, ◌%◌, ◌^◌, ◌==◌, ◌&&◌, not, nat_lt, Bool, false, if◌then◌else◌, List, [], ◌∷◌, ◌++◌}
use Rattle.lg_base.specs.Words.{negated, signed_view}
use Rattle.lg_base.specs.declared.target.Target.TheVariants.{Aarch64}
use Rattle.lg_op.specs.declared.node.Node.{Node}
use Rattle.lg_op.specs.declared.op.ValueType.{ValueType}
use Rattle.lg_op.specs.declared.op.ValueType.TheVariants as value_type
use Rattle.lg_op.specs.declared.op.StoreType.{StoreType}
use Rattle.lg_op.specs.declared.op.StoreType.TheVariants as store_type
use Rattle.lg_op.specs.declared.op.Addressing.{Addressing}
use Rattle.lg_op.specs.declared.operand.Operand.{Operand}
use Rattle.lg_a64.specs.declared.instruction.Instr.{Instr}
use Rattle.lg_a64.specs.declared.instruction.Instr.TheVariants as instr
use Rattle.lg_a64.specs.declared.instruction.ScaledOp.{ScaledOp}
use Rattle.lg_a64.specs.declared.instruction.ScaledOp.TheVariants.{Ldr64, Str64, Ldr32, Ldrs32, Str32, Ldr16, Ldrs16, Str16, Ldr8, Ldrs8, Str8}
use Rattle.lg_a64.specs.declared.instruction.ImmOp.TheVariants.{Addi, Subi}
use Rattle.lg_a64.specs.declared.instruction.RegOp.TheVariants as reg
use Rattle.lg_a64.specs.declared.instruction.UnscaledOp.{UnscaledOp}
use Rattle.lg_a64.specs.declared.instruction.UnscaledOp.TheVariants.{Ldur, Stur}
use Rattle.lg_op.specs.Operators.{width, store_width}
use Rattle.lg_temp.specs.Abis.{register_of}
use Rattle.lg_meaning.specs.Steps.{operand_at, stored_operand}
use Rattle.lg_carry.specs.Memory.Accesses.{Address, Base, At, Sum, Index, address_of}
use Rattle.lg_carry.specs.Memory.Loads.{LoadCode}
use Rattle.lg_carry.specs.Memory.Operands.{named}
use Rattle.lg_carry.specs.Memory.Stores.{StoreCode}
use Rattle.lg_sela_values.specs.Processor.A64Rows.{link}
use Rattle.lg_sela_values.specs.Processor.Numbers.{number_code}

-- the register that an operand names
abbrev pub register : Operand → ℕ
register x = register_of Aarch64 (named x)

-- the row that loads by a type, and the one that stores by a type
abbrev pub load_row : ValueType → ScaledOp
load_row value_type.Char = Ldrs8
load_row value_type.UnsignedChar = Ldr8
load_row value_type.Short = Ldrs16
load_row value_type.UnsignedShort = Ldr16
load_row value_type.Int = Ldrs32
load_row value_type.UnsignedInt = Ldr32
load_row value_type.Long = Ldr64

abbrev pub store_row : StoreType → ScaledOp
store_row store_type.Char = Str8
store_row store_type.Short = Str16
store_row store_type.Int = Str32
store_row store_type.Long = Str64

-- how an address is made: by instructions that compute it, and then as a register and a number of accesses
pub record Place : Type 0 where
  pub code : List Instr
  pub base : ℕ
  pub count : ℕ

abbrev pub at_register : ℕ → Place
at_register a = record { code = []; base = a; count = 0 }

-- the link holds nothing that is needed after a `prolog`, so it takes addresses
abbrev pub at_link : List Instr → Place
at_link code = record { code = code; base = link; count = 0 }

-- a number that the row holds, where an access has this many bytes
abbrev pub is_scaled : ℕ → ℕ → Bool
is_scaled bytes v = (v % bytes == 0) && nat_lt (v / bytes) 4096

-- a number of 12 bits
abbrev pub is_small : ℕ → Bool
is_small v = nat_lt v 4096

-- the sum of a register and a number in the link: by an instruction that holds the number or its negative, where one does
abbrev pub sum_code : ℕ → ℕ → List Instr
sum_code a v =
    if is_small v then instr.Imm Addi link a v false ∷ []
    else if is_small (negated v) then instr.Imm Subi link a (negated v) false ∷ []
    else number_code link v ++ instr.Reg reg.Add link a link ∷ []

-- a register and a number: a number of accesses where the row holds it, and else their sum in the link
abbrev pub indexed : ℕ → ℕ → ℕ → Place
indexed bytes a v = if is_scaled bytes v then record { code = []; base = a; count = v / bytes } else at_link (sum_code a v)

-- an address, where an access has this many bytes
abbrev pub place_of : ℕ → Address → Place
place_of bytes (Base a) = at_register (register_of Aarch64 a)
place_of bytes (At v) = at_link (number_code link v)
place_of bytes (Sum a b) = at_link (instr.Reg reg.Add link (register_of Aarch64 a) (register_of Aarch64 b) ∷ [])
place_of bytes (Index a v) = indexed bytes (register_of Aarch64 a) v

abbrev pub loading : ValueType → ℕ → Place → List Instr
loading t d p = p.code ++ instr.Scaled (load_row t) d p.base p.count ∷ []

abbrev pub storing : StoreType → ℕ → Place → List Instr
storing t v p = p.code ++ instr.Scaled (store_row t) v p.base p.count ∷ []

-- a number of bytes from -256 to 255, which the rows of words hold
abbrev pub is_close : ℕ → Bool
is_close v = nat_lt ((v + 256) % 2 ^ 64) 512

-- whether such a row is taken for a number, and for an address, where an access has this many bytes
abbrev pub is_counted : ℕ → ℕ → Bool
is_counted bytes v = (bytes == 8) && (not (is_scaled bytes v) && is_close v)

abbrev pub is_unscaled : ℕ → Address → Bool
is_unscaled bytes (Index a v) = is_counted bytes v
is_unscaled bytes at = false

abbrev pub unscaled : UnscaledOp → ℕ → Address → List Instr
unscaled op r (Index a v) = instr.Unscaled op r (register_of Aarch64 a) (signed_view v) ∷ []
unscaled op r at = []

-- a word is loaded from the sum of two registers by a row, too
abbrev pub is_word : ℕ → Address → Bool
is_word bytes (Sum a b) = bytes == 8
is_word bytes at = is_unscaled bytes at

abbrev pub word_load : ℕ → Address → List Instr
word_load d (Sum a b) = instr.Ldrx d (register_of Aarch64 a) (register_of Aarch64 b) ∷ []
word_load d at = unscaled Ldur d at

abbrev pub load_at : ValueType → ℕ → Address → List Instr
load_at t d at = if is_word (width t) at then word_load d at else loading t d (place_of (width t) at)

abbrev pub store_at : StoreType → ℕ → Address → List Instr
store_at t v at = if is_unscaled (store_width t) at then unscaled Stur v at else storing t v (place_of (store_width t) at)

-- the code of a load and of a store, in any frame
abbrev pub a64_load : LoadCode Instr
a64_load frame t d at = load_at t (register_of Aarch64 d) at

abbrev pub a64_store : StoreCode Instr
a64_store frame t at b = store_at t (register_of Aarch64 b) at

-- that of a node
abbrev pub load_code : ValueType → Addressing → Node → List Instr
load_code t at n = load_at t (register (operand_at n 0)) (address_of at (operand_at n 1) (operand_at n 2))

abbrev pub store_code : StoreType → Addressing → Node → List Instr
store_code t at n = store_at t (register (operand_at n (stored_operand at))) (address_of at (operand_at n 0) (operand_at n 1))
