-- What the instructions of A64 compute (Arm Architecture Reference Manual, "A64 Base Instruction Descriptions", with its functions AddWithCarry and
-- ConditionHolds). Registers hold words of 64 bits.
use Rattle.std.specs.Prelude.{ℕ, ◌+◌, ◌-◌, ◌*◌, ◌/◌, ◌%◌, ◌^◌, ◌==◌, ◌&&◌, not, Bool, false, nat_lt, nat_le, bit_and, bit_or, bit_xor, if◌then◌else◌}
use Rattle.lg_base.specs.Words.{add_words, sub_words, mul_words, complement, high_product, high_product_signed, quotient, quotient_signed, shifted_left, shifted_right, shifted_right_signed, is_negative, differ, word_of_test, carry_out, borrow_out}
use Rattle.lg_base.specs.Wide.{swapped}
use Rattle.lg_base.specs.Flags.{negative_flag, zero_flag, carry_flag, overflow_flag}
use Rattle.lg_a64.specs.declared.instruction.RegOp.{RegOp}
use Rattle.lg_a64.specs.declared.instruction.RegOp.TheVariants.{Add, Adds, Sub, Subs, Adc, Adcs, Sbc, Sbcs, And, Orr, Eor, Ands, Orn, Smulh, Umulh, Udiv, Sdiv, Lslv, Lsrv, Asrv}
use Rattle.lg_a64.specs.declared.instruction.ImmOp.{ImmOp}
use Rattle.lg_a64.specs.declared.instruction.ImmOp.TheVariants.{Addi, Addsi, Subi, Subsi}
use Rattle.lg_a64.specs.declared.instruction.WideOp.{WideOp}
use Rattle.lg_a64.specs.declared.instruction.WideOp.TheVariants.{Movz, Movn, Movk}
use Rattle.lg_a64.specs.declared.instruction.MulAddOp.{MulAddOp}
use Rattle.lg_a64.specs.declared.instruction.MulAddOp.TheVariants.{Madd, Msub}
use Rattle.lg_a64.specs.declared.instruction.BitfieldOp.{BitfieldOp}
use Rattle.lg_a64.specs.declared.instruction.BitfieldOp.TheVariants.{Sbfm, Ubfm}
use Rattle.lg_a64.specs.declared.instruction.ReverseOp.{ReverseOp}
use Rattle.lg_a64.specs.declared.instruction.ReverseOp.TheVariants.{Rev, Rev32, Rev16}
use Rattle.lg_a64.specs.declared.instruction.Cond.{Cond}
use Rattle.lg_a64.specs.declared.instruction.Cond.TheVariants.{Eq, Ne, Cs, Cc, Mi, Pl, Vs, Vc, Hi, Ls, Ge, Lt, Gt, Le}
use Rattle.lg_base.specs.declared.flags.Flags.{Flags}
use Rattle.lg_base.specs.declared.flags.Flags.TheVariants.{Nzcv}

-- ---- flags
-- N and Z are those of a result
abbrev pub result_flags : ℕ → Bool → Bool → Flags
result_flags result carry overflow = Nzcv (is_negative result) (result == 0) carry overflow

-- a sum does not fit a signed word where both words have one sign and the sum the other; a difference where the words differ in their signs, and
-- the difference from the first
abbrev pub sum_leaves : ℕ → ℕ → ℕ → Bool
sum_leaves a b result = if differ (is_negative a) (is_negative b) then false else differ (is_negative a) (is_negative result)

abbrev pub difference_leaves : ℕ → ℕ → ℕ → Bool
difference_leaves a b result = if differ (is_negative a) (is_negative b) then differ (is_negative a) (is_negative result) else false

-- a + b + carry, and a - b - borrow: C is the carry out, and of a difference the borrow turned
abbrev pub sum_of : ℕ → ℕ → ℕ → ℕ
sum_of a b carry = (a + b + carry) % 2 ^ 64

abbrev pub difference_of : ℕ → ℕ → ℕ → ℕ
difference_of a b borrow = (a + (2 ^ 65 - (b + borrow))) % 2 ^ 64

abbrev pub sum_flags : ℕ → ℕ → ℕ → Flags
sum_flags a b carry = result_flags (sum_of a b carry) (carry_out a b carry) (sum_leaves a b (sum_of a b carry))

abbrev pub difference_flags : ℕ → ℕ → ℕ → Flags
difference_flags a b borrow = result_flags (difference_of a b borrow) (not (borrow_out a b borrow)) (difference_leaves a b (difference_of a b borrow))

-- what `adc` adds, and what `sbc` subtracts besides
abbrev pub carry_word : Flags → ℕ
carry_word f = word_of_test (carry_flag f)

abbrev pub borrow_word : Flags → ℕ
borrow_word f = word_of_test (not (carry_flag f))

-- whether a condition holds
abbrev pub condition_holds : Cond → Flags → Bool
condition_holds Eq f = zero_flag f
condition_holds Ne f = not (zero_flag f)
condition_holds Cs f = carry_flag f
condition_holds Cc f = not (carry_flag f)
condition_holds Mi f = negative_flag f
condition_holds Pl f = not (negative_flag f)
condition_holds Vs f = overflow_flag f
condition_holds Vc f = not (overflow_flag f)
condition_holds Hi f = carry_flag f && not (zero_flag f)
condition_holds Ls f = not (carry_flag f && not (zero_flag f))
condition_holds Ge f = not (differ (negative_flag f) (overflow_flag f))
condition_holds Lt f = differ (negative_flag f) (overflow_flag f)
condition_holds Gt f = not (zero_flag f) && not (differ (negative_flag f) (overflow_flag f))
condition_holds Le f = not (not (zero_flag f) && not (differ (negative_flag f) (overflow_flag f)))

-- ---- three registers
-- by zero the quotient is 0
abbrev pub divided : ℕ → ℕ → ℕ
divided a b = if b == 0 then 0 else quotient a b

abbrev pub divided_signed : ℕ → ℕ → ℕ
divided_signed a b = if b == 0 then 0 else quotient_signed a b

-- what the rows with three registers make of the words in rn and rm
abbrev pub reg_value : RegOp → Flags → ℕ → ℕ → ℕ
reg_value Add f a b = add_words a b
reg_value Adds f a b = add_words a b
reg_value Sub f a b = sub_words a b
reg_value Subs f a b = sub_words a b
reg_value Adc f a b = sum_of a b (carry_word f)
reg_value Adcs f a b = sum_of a b (carry_word f)
reg_value Sbc f a b = difference_of a b (borrow_word f)
reg_value Sbcs f a b = difference_of a b (borrow_word f)
reg_value And f a b = bit_and a b
reg_value Orr f a b = bit_or a b
reg_value Eor f a b = bit_xor a b
reg_value Ands f a b = bit_and a b
reg_value Orn f a b = bit_or a (complement b)
reg_value Smulh f a b = high_product_signed a b
reg_value Umulh f a b = high_product a b
reg_value Udiv f a b = divided a b
reg_value Sdiv f a b = divided_signed a b
reg_value Lslv f a b = shifted_left a (b % 64)
reg_value Lsrv f a b = shifted_right a (b % 64)
reg_value Asrv f a b = shifted_right_signed a (b % 64)

-- and of the flags; those whose names end in s set them
abbrev pub reg_flags : RegOp → Flags → ℕ → ℕ → Flags
reg_flags Adds f a b = sum_flags a b 0
reg_flags Subs f a b = difference_flags a b 0
reg_flags Adcs f a b = sum_flags a b (carry_word f)
reg_flags Sbcs f a b = difference_flags a b (borrow_word f)
reg_flags Ands f a b = result_flags (bit_and a b) false false
reg_flags op f a b = f

-- ---- a register and a number
abbrev pub imm_number : ℕ → Bool → ℕ
imm_number imm shifted = if shifted then imm * 4096 else imm

abbrev pub imm_value : ImmOp → ℕ → ℕ → ℕ
imm_value Addi a n = add_words a n
imm_value Addsi a n = add_words a n
imm_value Subi a n = sub_words a n
imm_value Subsi a n = sub_words a n

abbrev pub imm_flags : ImmOp → Flags → ℕ → ℕ → Flags
imm_flags Addsi f a n = sum_flags a n 0
imm_flags Subsi f a n = difference_flags a n 0
imm_flags op f a n = f

-- ---- numbers of 16 bits for a quarter of a register
-- the bits of a word below a quarter, the number in its place, and the bits above
abbrev pub replaced : ℕ → ℕ → ℕ → ℕ
replaced old unit imm = old % unit + imm * unit + old / (unit * 2 ^ 16) * (unit * 2 ^ 16)

-- the lowest bit of a quarter
abbrev pub quarter : ℕ → ℕ
quarter hw = if hw == 0 then 1 else if hw == 1 then 2 ^ 16 else if hw == 2 then 2 ^ 32 else 2 ^ 48

abbrev pub wide_value : WideOp → ℕ → ℕ → ℕ → ℕ
wide_value Movz old imm hw = imm * quarter hw
wide_value Movn old imm hw = complement (imm * quarter hw)
wide_value Movk old imm hw = replaced old (quarter hw) imm

-- ---- products
abbrev pub mul_add_value : MulAddOp → ℕ → ℕ → ℕ → ℕ
mul_add_value Madd a b c = add_words c (mul_words a b)
mul_add_value Msub a b c = sub_words c (mul_words a b)

-- ---- bit fields
-- the low bits of a word, at least one and at most 64, and with the sign of the highest of them
abbrev pub low_bits : ℕ → ℕ → ℕ
low_bits a count = a % 2 ^ count

abbrev pub with_high_bits : ℕ → ℕ → ℕ
with_high_bits field count = if nat_lt field (2 ^ (count - 1)) then field else field + (2 ^ 64 - 2 ^ count)

abbrev pub field_value : BitfieldOp → ℕ → ℕ → ℕ
field_value Sbfm a count = with_high_bits (low_bits a count) count
field_value Ubfm a count = low_bits a count

-- bits immr to imms go to bit 0, or bits 0 to imms to bit 64 - immr
abbrev pub bitfield_value : BitfieldOp → ℕ → ℕ → ℕ → ℕ
bitfield_value op a immr imms =
    if nat_le immr imms then field_value op (shifted_right a immr) (imms - immr + 1) else shifted_left (field_value op a (imms + 1)) (64 - immr)

-- ---- a choice, and bytes in another order
abbrev pub csinc_value : Bool → ℕ → ℕ → ℕ
csinc_value chosen a b = if chosen then a else add_words b 1

abbrev pub reverse_value : ReverseOp → ℕ → ℕ
reverse_value Rev a = swapped a 8
reverse_value Rev32 a = swapped a 4 + swapped (a / 2 ^ 32) 4 * 2 ^ 32
reverse_value Rev16 a = swapped a 2 + swapped (a / 2 ^ 16) 2 * 2 ^ 16 + swapped (a / 2 ^ 32) 2 * 2 ^ 32 + swapped (a / 2 ^ 48) 2 * 2 ^ 48
