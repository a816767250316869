-- What the instructions of x86-64 make of words and flags (Intel 64 and IA-32 Architectures Software Developer's Manual, volume 2). A flag is 0 or 1,
-- or undefined.
use Rattle.std.specs.Prelude.{ℕ, ◌+◌, ◌-◌, ◌/◌, ◌%◌, ◌^◌, ◌==◌, ◌||◌, not, Bool, true, false, bit_and, bit_or, bit_xor, Option, Some, None, if◌then◌else◌}
use Rattle.lg_base.specs.Words.{add_words, sub_words, mul_words, negated, is_negative, differ, high_product, high_product_signed, shifted_left, shifted_right, shifted_right_signed, carry_out, borrow_out}
use Rattle.lg_base.specs.Wide.{zero_part_of, sign_part_of}
use Rattle.lg_base.specs.declared.flags.Flags.{Flags}
use Rattle.lg_base.specs.declared.flags.Flags.TheVariants.{Rflags}
use Rattle.lg_base.specs.Flags.{carry_of}
use Rattle.lg_x86.specs.declared.instruction.RmRegOp.{RmRegOp}
use Rattle.lg_x86.specs.declared.instruction.RmRegOp.TheVariants as alu
use Rattle.lg_x86.specs.declared.instruction.ImmOp.{ImmOp}
use Rattle.lg_x86.specs.declared.instruction.ImmOp.TheVariants as imm
use Rattle.lg_x86.specs.declared.instruction.RegRmOp.{RegRmOp}
use Rattle.lg_x86.specs.declared.instruction.RegRmOp.TheVariants as reg_rm
use Rattle.lg_x86.specs.declared.instruction.ShiftOp.{ShiftOp}
use Rattle.lg_x86.specs.declared.instruction.ShiftOp.TheVariants.{Shli, Shri, Sari}
use Rattle.lg_x86.specs.declared.instruction.Cond.{Cond}
use Rattle.lg_x86.specs.declared.instruction.Cond.TheVariants as cond

-- OF, ZF and SF, where they are defined; the flags of other processors read as undefined
abbrev pub overflow_of : Flags → Option Bool
overflow_of (Rflags sign zero carry overflow) = overflow
overflow_of f = None

abbrev pub zero_of : Flags → Option Bool
zero_of (Rflags sign zero carry overflow) = zero
zero_of f = None

abbrev pub sign_of : Flags → Option Bool
sign_of (Rflags sign zero carry overflow) = sign
sign_of f = None

-- no flag is defined
abbrev pub no_flags : Flags
no_flags = Rflags None None None None

-- ZF and SF by a result
abbrev pub flags_of : Option Bool → Option Bool → ℕ → Flags
flags_of carry overflow result = Rflags (Some (is_negative result)) (Some (result == 0)) carry overflow

-- a bit as a number
abbrev pub bit : Bool → ℕ
bit b = if b then 1 else 0

-- ---- the rows that combine a register with a word: a is the register's word, b the other, and c the carry

-- the carry that a row reads; a row that reads none takes 0
abbrev pub carry_for : RmRegOp → Option Bool → Option Bool
carry_for alu.Adc carry = carry
carry_for alu.Sbb carry = carry
carry_for op carry = Some false

abbrev pub alu_value : RmRegOp → ℕ → ℕ → ℕ → ℕ
alu_value alu.Add a b c = add_words a b
alu_value alu.Or a b c = bit_or a b
alu_value alu.Adc a b c = (a + b + c) % 2 ^ 64
alu_value alu.Sbb a b c = (a + (2 ^ 65 - (b + c))) % 2 ^ 64
alu_value alu.And a b c = bit_and a b
alu_value alu.Sub a b c = sub_words a b
alu_value alu.Xor a b c = bit_xor a b
alu_value alu.Cmp a b c = sub_words a b
alu_value alu.Test a b c = bit_and a b
alu_value alu.Mov a b c = b

-- signed words a and b whose wrapped sum or difference is r: whether it does not fit
abbrev pub overflows_sum : ℕ → ℕ → ℕ → Bool
overflows_sum a b r = if differ (is_negative a) (is_negative b) then false else differ (is_negative a) (is_negative r)

abbrev pub overflows_difference : ℕ → ℕ → ℕ → Bool
overflows_difference a b r = if differ (is_negative a) (is_negative b) then differ (is_negative a) (is_negative r) else false

abbrev pub sum_flags : ℕ → ℕ → ℕ → ℕ → Flags
sum_flags a b c r = flags_of (Some (carry_out a b c)) (Some (overflows_sum a b r)) r

abbrev pub difference_flags : ℕ → ℕ → ℕ → ℕ → Flags
difference_flags a b c r = flags_of (Some (borrow_out a b c)) (Some (overflows_difference a b r)) r

abbrev pub bit_flags : ℕ → Flags
bit_flags r = flags_of (Some false) (Some false) r

abbrev pub alu_flags : RmRegOp → Flags → ℕ → ℕ → ℕ → Flags
alu_flags alu.Add f a b c = sum_flags a b 0 (add_words a b)
alu_flags alu.Or f a b c = bit_flags (bit_or a b)
alu_flags alu.Adc f a b c = sum_flags a b c ((a + b + c) % 2 ^ 64)
alu_flags alu.Sbb f a b c = difference_flags a b c ((a + (2 ^ 65 - (b + c))) % 2 ^ 64)
alu_flags alu.And f a b c = bit_flags (bit_and a b)
alu_flags alu.Sub f a b c = difference_flags a b 0 (sub_words a b)
alu_flags alu.Xor f a b c = bit_flags (bit_xor a b)
alu_flags alu.Cmp f a b c = difference_flags a b 0 (sub_words a b)
alu_flags alu.Test f a b c = bit_flags (bit_and a b)
alu_flags alu.Mov f a b c = f

-- whether the register is written
abbrev pub is_kept_by : RmRegOp → Bool
is_kept_by alu.Cmp = true
is_kept_by alu.Test = true
is_kept_by op = false

-- a row with a number does what the row with a register does that holds the number
abbrev pub alu_of : ImmOp → RmRegOp
alu_of imm.Addi = alu.Add
alu_of imm.Ori = alu.Or
alu_of imm.Adci = alu.Adc
alu_of imm.Sbbi = alu.Sbb
alu_of imm.Andi = alu.And
alu_of imm.Subi = alu.Sub
alu_of imm.Xori = alu.Xor
alu_of imm.Cmpi = alu.Cmp

-- ---- products, and parts of words
-- CF and OF say that the high half is needed
abbrev pub product_flags : Bool → Flags
product_flags needed = Rflags None None (Some needed) (Some needed)

-- the word of all ones, or 0
abbrev pub sign_word : ℕ → ℕ
sign_word a = if is_negative a then 2 ^ 64 - 1 else 0

abbrev pub needs_high : ℕ → ℕ → Bool
needs_high a b = not (high_product a b == 0)

abbrev pub needs_high_signed : ℕ → ℕ → Bool
needs_high_signed a b = not (high_product_signed a b == sign_word (mul_words a b))

-- a is the word of reg, b that of rm
abbrev pub reg_rm_value : RegRmOp → ℕ → ℕ → ℕ
reg_rm_value reg_rm.Ext32u a b = zero_part_of b 4
reg_rm_value reg_rm.Ext32s a b = sign_part_of b 4
reg_rm_value reg_rm.Ext8u a b = zero_part_of b 1
reg_rm_value reg_rm.Ext16u a b = zero_part_of b 2
reg_rm_value reg_rm.Ext8s a b = sign_part_of b 1
reg_rm_value reg_rm.Ext16s a b = sign_part_of b 2
reg_rm_value reg_rm.Imul a b = mul_words a b

abbrev pub reg_rm_flags : RegRmOp → Flags → ℕ → ℕ → Flags
reg_rm_flags reg_rm.Imul f a b = product_flags (needs_high_signed a b)
reg_rm_flags op f a b = f

-- 0 - a
abbrev pub negation_flags : ℕ → Flags
negation_flags a = flags_of (Some (not (a == 0))) (Some (a == 2 ^ 63)) (negated a)

-- ---- shifts by a count below 64
abbrev pub shift_value : ShiftOp → ℕ → ℕ → ℕ
shift_value Shli a n = shifted_left a n
shift_value Shri a n = shifted_right a n
shift_value Sari a n = shifted_right_signed a n

-- the last bit out
abbrev pub last_out : ShiftOp → ℕ → ℕ → Bool
last_out Shli a n = a / 2 ^ (64 - n) % 2 == 1
last_out Shri a n = a / 2 ^ (n - 1) % 2 == 1
last_out Sari a n = a / 2 ^ (n - 1) % 2 == 1

-- OF, which counts above 1 leave undefined
abbrev pub shift_overflow : ShiftOp → ℕ → Bool
shift_overflow Shli a = differ (is_negative (shifted_left a 1)) (last_out Shli a 1)
shift_overflow Shri a = is_negative a
shift_overflow Sari a = false

abbrev pub shift_flags : ShiftOp → Flags → ℕ → ℕ → Flags
shift_flags op f a n =
    if n == 0 then f
    else flags_of (Some (last_out op a n)) (if n == 1 then Some (shift_overflow op a) else None) (shift_value op a n)

-- ---- conditions
-- where both are defined
abbrev pub turned : Option Bool → Option Bool
turned None = None
turned (Some a) = Some (not a)

abbrev pub both : (Bool → Bool → Bool) → Option Bool → Option Bool → Option Bool
both f (Some a) (Some b) = Some (f a b)
both f a b = None

abbrev pub either : Bool → Bool → Bool
either a b = a || b

-- a condition is undefined where a flag that it names is
abbrev pub condition_holds : Cond → Flags → Option Bool
condition_holds cond.Overflow f = overflow_of f
condition_holds cond.NoOverflow f = turned (overflow_of f)
condition_holds cond.Below f = carry_of f
condition_holds cond.AboveOrEqual f = turned (carry_of f)
condition_holds cond.Equal f = zero_of f
condition_holds cond.NotEqual f = turned (zero_of f)
condition_holds cond.BelowOrEqual f = both either (carry_of f) (zero_of f)
condition_holds cond.Above f = turned (both either (carry_of f) (zero_of f))
condition_holds cond.Sign f = sign_of f
condition_holds cond.NoSign f = turned (sign_of f)
condition_holds cond.Less f = both differ (sign_of f) (overflow_of f)
condition_holds cond.GreaterOrEqual f = turned (both differ (sign_of f) (overflow_of f))
condition_holds cond.LessOrEqual f = both either (zero_of f) (both differ (sign_of f) (overflow_of f))
condition_holds cond.Greater f = turned (both either (zero_of f) (both differ (sign_of f) (overflow_of f)))
