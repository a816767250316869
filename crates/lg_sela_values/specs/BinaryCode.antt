-- The code of the operations on two words, from two registers or from a register and a number.
use Rattle.std.specs.Int.{w64, trailing_ones}
use Rattle.std.specs.Prelude.{ℕ, ◌-◌, ◌%◌, ◌^◌, ◌==◌, ◌&&◌, nat_lt, Bool, true, false, if◌then◌else◌, List, [], ◌∷◌, ◌++◌}
use Rattle.lg_base.specs.Words.{negated}
use Rattle.lg_op.specs.declared.op.BinaryOp.{BinaryOp}
use Rattle.lg_op.specs.declared.op.BinaryOp.TheVariants as binary
use Rattle.lg_a64.specs.declared.instruction.Instr.{Instr}
use Rattle.lg_a64.specs.declared.instruction.Instr.TheVariants.{Reg, Imm, MulAdd, Bitfield, Csinc}
use Rattle.lg_a64.specs.declared.instruction.ImmOp.TheVariants.{Addi, Addsi, Subi, Subsi}
use Rattle.lg_a64.specs.declared.instruction.MulAddOp.TheVariants.{Madd, Msub}
use Rattle.lg_a64.specs.declared.instruction.BitfieldOp.TheVariants.{Sbfm, Ubfm}
use Rattle.lg_a64.specs.declared.instruction.RegOp.{RegOp}
use Rattle.lg_a64.specs.declared.instruction.RegOp.TheVariants as row
use Rattle.lg_a64.specs.declared.instruction.Cond.{Cond}
use Rattle.lg_a64.specs.declared.instruction.Cond.TheVariants as cond
use Rattle.lg_sela_values.specs.Processor.A64Rows.{link, zero_register}
use Rattle.lg_sela_values.specs.Processor.Numbers.{number_code}

-- the condition that holds after a comparison of two words where the test fails
abbrev pub failing : BinaryOp → Cond
failing binary.Lt = cond.Ge
failing binary.LtU = cond.Cs
failing binary.Le = cond.Gt
failing binary.LeU = cond.Hi
failing binary.Ge = cond.Lt
failing binary.GeU = cond.Cc
failing binary.Gt = cond.Le
failing binary.GtU = cond.Ls
failing binary.Eq = cond.Ne
failing o = cond.Eq

-- 0 where the test fails, else 1
abbrev pub test_code : BinaryOp → ℕ → List Instr
test_code o d = Csinc d zero_register zero_register (failing o) ∷ []

abbrev pub compared_code : BinaryOp → ℕ → ℕ → ℕ → List Instr
compared_code o d a b = Reg row.Subs zero_register a b ∷ test_code o d

-- the quotient waits in the link, which holds nothing after the `prolog`
abbrev pub remainder_code : RegOp → ℕ → ℕ → ℕ → List Instr
remainder_code divide d a b = Reg divide link a b ∷ MulAdd Msub d link b a ∷ []

-- d = a op b; the carry is C, and of a difference C turned
abbrev pub register_code : BinaryOp → ℕ → ℕ → ℕ → List Instr
register_code binary.Add d a b = Reg row.Add d a b ∷ []
register_code binary.Sub d a b = Reg row.Sub d a b ∷ []
register_code binary.Rsb d a b = Reg row.Sub d b a ∷ []
register_code binary.Mul d a b = MulAdd Madd d a b zero_register ∷ []
register_code binary.And d a b = Reg row.And d a b ∷ []
register_code binary.Or d a b = Reg row.Orr d a b ∷ []
register_code binary.Xor d a b = Reg row.Eor d a b ∷ []
register_code binary.Lsh d a b = Reg row.Lslv d a b ∷ []
register_code binary.Rsh d a b = Reg row.Asrv d a b ∷ []
register_code binary.RshU d a b = Reg row.Lsrv d a b ∷ []
register_code binary.Div d a b = Reg row.Sdiv d a b ∷ []
register_code binary.DivU d a b = Reg row.Udiv d a b ∷ []
register_code binary.Rem d a b = remainder_code row.Sdiv d a b
register_code binary.RemU d a b = remainder_code row.Udiv d a b
register_code binary.Addc d a b = Reg row.Adds d a b ∷ []
register_code binary.Subc d a b = Reg row.Subs d a b ∷ []
register_code binary.Addx d a b = Reg row.Adcs d a b ∷ []
register_code binary.Subx d a b = Reg row.Sbcs d a b ∷ []
register_code o d a b = compared_code o d a b

-- where an immediate stands: in the link, but of a remainder in u, a temporary, since its quotient is in the link
abbrev pub second_register : BinaryOp → ℕ → ℕ
second_register binary.Rem u = u
second_register binary.RemU u = u
second_register o u = link

-- any number is put into that register
abbrev pub loaded_code : BinaryOp → ℕ → ℕ → ℕ → ℕ → List Instr
loaded_code o u d a v = number_code (second_register o u) v ++ register_code o d a (second_register o u)

-- a number of 12 bits
abbrev pub is_small : ℕ → Bool
is_small v = nat_lt v 4096

-- the operations for which an instruction holds such a number
abbrev pub takes_small : BinaryOp → Bool
takes_small binary.Add = true
takes_small binary.Sub = true
takes_small binary.Addc = true
takes_small binary.Subc = true
takes_small binary.Lt = true
takes_small binary.LtU = true
takes_small binary.Le = true
takes_small binary.LeU = true
takes_small binary.Ge = true
takes_small binary.GeU = true
takes_small binary.Gt = true
takes_small binary.GtU = true
takes_small binary.Eq = true
takes_small binary.Ne = true
takes_small o = false

abbrev pub small_code : BinaryOp → ℕ → ℕ → ℕ → List Instr
small_code binary.Add d a v = Imm Addi d a v false ∷ []
small_code binary.Sub d a v = Imm Subi d a v false ∷ []
small_code binary.Addc d a v = Imm Addsi d a v false ∷ []
small_code binary.Subc d a v = Imm Subsi d a v false ∷ []
small_code o d a v = Imm Subsi zero_register a v false ∷ test_code o d

-- the operations for which one holds the negative of the number
abbrev pub takes_negative : BinaryOp → Bool
takes_negative binary.Add = true
takes_negative binary.Sub = true
takes_negative o = false

abbrev pub negative_code : BinaryOp → ℕ → ℕ → ℕ → List Instr
negative_code binary.Add d a v = Imm Subi d a (negated v) false ∷ []
negative_code o d a v = Imm Addi d a (negated v) false ∷ []

abbrev pub negative_form_code : BinaryOp → ℕ → ℕ → ℕ → ℕ → List Instr
negative_form_code o u d a v =
    if takes_negative o then (if is_small (negated v) then negative_code o d a v else loaded_code o u d a v) else loaded_code o u d a v

abbrev pub small_form_code : BinaryOp → ℕ → ℕ → ℕ → ℕ → List Instr
small_form_code o u d a v = if takes_small o then (if is_small v then small_code o d a v else negative_form_code o u d a v) else loaded_code o u d a v

-- how many of the lowest bits of a number are ones, one after the other
unfoldable pub mask_width : ℕ → ℕ
mask_width v = trailing_ones w64 v

-- a number that has no other bits, and not all 64: what it leaves of a word is a field of this many bits
abbrev pub is_mask : ℕ → Bool
is_mask v = nat_lt 0 (mask_width v) && (nat_lt (mask_width v) 64 && (v == 2 ^ mask_width v - 1))

abbrev pub mask_code : ℕ → ℕ → ℕ → List Instr
mask_code d a v = Bitfield Ubfm d a 0 (mask_width v - 1) ∷ []

abbrev pub mask_form_code : ℕ → ℕ → ℕ → ℕ → List Instr
mask_form_code u d a v = if is_mask v then mask_code d a v else loaded_code binary.And u d a v

-- d = a op v; a count of 64 or more is taken modulo 64
abbrev pub number_form_code : BinaryOp → ℕ → ℕ → ℕ → ℕ → List Instr
number_form_code binary.Lsh u d a v = Bitfield Ubfm d a ((64 - v % 64) % 64) (63 - v % 64) ∷ []
number_form_code binary.Rsh u d a v = Bitfield Sbfm d a (v % 64) 63 ∷ []
number_form_code binary.RshU u d a v = Bitfield Ubfm d a (v % 64) 63 ∷ []
number_form_code binary.And u d a v = mask_form_code u d a v
number_form_code o u d a v = small_form_code o u d a v
