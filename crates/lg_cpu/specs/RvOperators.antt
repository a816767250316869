-- What the instructions of RV64IM compute (RISC-V unprivileged ISA, "RV32I Base Integer Instruction Set", "RV64I Base
-- Integer Instruction Set" and "M Extension"). Registers hold words of 64 bits; the rows on 32 bits end in w, and extend
-- what they compute by its sign.
use Rattle.std.specs.Prelude.{ℕ, ◌-◌, ◌%◌, ◌^◌, ◌==◌, not, Bool, bit_and, bit_or, bit_xor, if◌then◌else◌}
use Rattle.lg_base.specs.Words.{add_words, sub_words, mul_words, high_product, high_product_signed, high_product_mixed, quotient, remainder, quotient_signed, remainder_signed, shifted_left, shifted_right, shifted_right_signed, is_less, is_less_signed, word_of_test, sign_32, zero_32}
use Rattle.lg_rv.specs.declared.instruction.BranchOp.{BranchOp}
use Rattle.lg_rv.specs.declared.instruction.BranchOp.TheVariants.{Beq, Bne, Blt, Bge, Bltu, Bgeu}
use Rattle.lg_rv.specs.declared.instruction.ShiftOp.{ShiftOp}
use Rattle.lg_rv.specs.declared.instruction.ShiftOp.TheVariants.{Slli, Srli, Srai, Slliw, Srliw, Sraiw}
use Rattle.lg_rv.specs.declared.instruction.RegOp.{RegOp}
use Rattle.lg_rv.specs.declared.instruction.RegOp.TheVariants.{Add, Sub, Sll, Slt, Sltu, Xor, Srl, Sra, Or, And, Addw, Subw, Sllw, Srlw, Sraw, Mul, Mulh, Mulhsu, Mulhu, Div, Divu, Rem, Remu, Mulw, Divw, Divuw, Remw, Remuw}

-- the word of all ones, which is the quotient by zero
abbrev pub all_ones : ℕ
all_ones = 2 ^ 64 - 1

-- quotients and remainders: by zero the quotient is all ones and the remainder the dividend
abbrev pub divided : ℕ → ℕ → ℕ
divided a b = if b == 0 then all_ones else quotient a b

abbrev pub left_over : ℕ → ℕ → ℕ
left_over a b = if b == 0 then a else remainder a b

abbrev pub divided_signed : ℕ → ℕ → ℕ
divided_signed a b = if b == 0 then all_ones else quotient_signed a b

abbrev pub left_over_signed : ℕ → ℕ → ℕ
left_over_signed a b = if b == 0 then a else remainder_signed a b

-- the rows with two source registers: what they make of the words in rs1 and rs2
abbrev pub reg_value : RegOp → ℕ → ℕ → ℕ
reg_value Add a b = add_words a b
reg_value Sub a b = sub_words a b
reg_value Sll a b = shifted_left a (b % 64)
reg_value Slt a b = word_of_test (is_less_signed a b)
reg_value Sltu a b = word_of_test (is_less a b)
reg_value Xor a b = bit_xor a b
reg_value Srl a b = shifted_right a (b % 64)
reg_value Sra a b = shifted_right_signed a (b % 64)
reg_value Or a b = bit_or a b
reg_value And a b = bit_and a b
reg_value Addw a b = sign_32 (add_words a b)
reg_value Subw a b = sign_32 (sub_words a b)
reg_value Sllw a b = sign_32 (shifted_left a (b % 32))
reg_value Srlw a b = sign_32 (shifted_right (zero_32 a) (b % 32))
reg_value Sraw a b = shifted_right_signed (sign_32 a) (b % 32)
reg_value Mul a b = mul_words a b
reg_value Mulh a b = high_product_signed a b
reg_value Mulhsu a b = high_product_mixed a b
reg_value Mulhu a b = high_product a b
reg_value Div a b = divided_signed a b
reg_value Divu a b = divided a b
reg_value Rem a b = left_over_signed a b
reg_value Remu a b = left_over a b
reg_value Mulw a b = sign_32 (mul_words a b)
reg_value Divw a b = sign_32 (divided_signed (sign_32 a) (sign_32 b))
reg_value Divuw a b = sign_32 (divided (zero_32 a) (zero_32 b))
reg_value Remw a b = sign_32 (left_over_signed (sign_32 a) (sign_32 b))
reg_value Remuw a b = sign_32 (left_over (zero_32 a) (zero_32 b))

-- a shift by a number is that by a register which holds the number
abbrev pub shift_value : ShiftOp → ℕ → ℕ → ℕ
shift_value Slli a n = reg_value Sll a n
shift_value Srli a n = reg_value Srl a n
shift_value Srai a n = reg_value Sra a n
shift_value Slliw a n = reg_value Sllw a n
shift_value Srliw a n = reg_value Srlw a n
shift_value Sraiw a n = reg_value Sraw a n

-- whether a branch is taken
abbrev pub is_taken : BranchOp → ℕ → ℕ → Bool
is_taken Beq a b = a == b
is_taken Bne a b = not (a == b)
is_taken Blt a b = is_less_signed a b
is_taken Bge a b = not (is_less_signed a b)
is_taken Bltu a b = is_less a b
is_taken Bgeu a b = not (is_less a b)
