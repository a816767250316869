-- What the instructions compute is a word.
use Rattle.std.proofs.Common.{ℕ, ◌+◌, ◌-◌, ◌*◌, ◌/◌, ◌%◌, ◌^◌, ◌<◌, ◌≤◌, Bool, true, false, arith}
use Rattle.std.specs.Prelude.{◌==◌, nat_lt, bit_and, if◌then◌else◌}
use Rattle.std.proofs.Math.Nat.{mod-lt, mod-le, div-le_self}
use Rattle.std.proofs.lemmas.Nat.{mul-lt, and_le_l, or_lt, xor_lt}
use Rattle.lg_base.specs.Words.{sign_32, zero_32, word_of_test, magnitude, with_sign, differ, is_negative, quotient_signed, remainder_signed, high_product, extended, shifted_right_signed, complement}
use Rattle.lg_base.specs.Wide.{sign_part_of}
use Rattle.lg_rv.specs.declared.instruction.RegOp.{RegOp}
use Rattle.lg_rv.specs.declared.instruction.RegOp.TheVariants.{Add, Sub, Sll, Slt, Sltu, Xor, Srl, Sra, Or, And, Addw, Subw, Sllw, Srlw, Sraw, Mul, Mulh, Mulhsu, Mulhu, Div, Divu, Rem, Remu, Mulw, Divw, Divuw, Remw, Remuw}
use Rattle.lg_rv.specs.declared.instruction.ShiftOp.{ShiftOp}
use Rattle.lg_rv.specs.declared.instruction.ShiftOp.TheVariants.{Slli, Srli, Srai, Slliw, Srliw, Sraiw}
use Rattle.lg_cpu.specs.RvOperators.{reg_value, shift_value, divided, left_over, divided_signed, left_over_signed}

pub low_word : (n : ℕ) → n % 2 ^ 64 < 2 ^ 64
low_word n = mod-lt n (omega arith)

pub sign_32_word : (n : ℕ) → sign_32 n < 2 ^ 64
sign_32_word n = grind arith

zero_32_word : (n : ℕ) → zero_32 n < 2 ^ 64
zero_32_word n = grind arith

test_word : (b : Bool) → word_of_test b < 2 ^ 64
test_word true = omega arith
test_word false = omega arith

pub quotient_word : (a b : ℕ) → a < 2 ^ 64 → a / b < 2 ^ 64
quotient_word a b h = let le : a / b ≤ a = div-le_self a b in omega (arith, le, h)

remainder_word : (a b : ℕ) → a < 2 ^ 64 → a % b < 2 ^ 64
remainder_word a b h = let le : a % b ≤ a = mod-le a b in omega (arith, le, h)

pub magnitude_word : (a : ℕ) → a < 2 ^ 64 → magnitude a < 2 ^ 64
magnitude_word a h = grind (arith, h)

pub with_sign_word : (negative : Bool) (n : ℕ) → n < 2 ^ 64 → with_sign negative n < 2 ^ 64
with_sign_word true n h = low_word (2 ^ 64 - n)
with_sign_word false n h = h

pub choice_word : (b : Bool) (x y : ℕ) → x < 2 ^ 64 → y < 2 ^ 64 → (if b then x else y) < 2 ^ 64
choice_word true x y h k = h
choice_word false x y h k = k

divided_word : (a b : ℕ) → a < 2 ^ 64 → divided a b < 2 ^ 64
divided_word a b h = choice_word (b == 0) (2 ^ 64 - 1) (a / b) (omega arith) (quotient_word a b h)

left_over_word : (a b : ℕ) → a < 2 ^ 64 → left_over a b < 2 ^ 64
left_over_word a b h = choice_word (b == 0) a (a % b) h (remainder_word a b h)

divided_signed_word : (a b : ℕ) → a < 2 ^ 64 → divided_signed a b < 2 ^ 64
divided_signed_word a b h = choice_word (b == 0) (2 ^ 64 - 1) (quotient_signed a b) (omega arith) (with_sign_word (differ (is_negative a) (is_negative b)) (magnitude a / magnitude b) (quotient_word (magnitude a) (magnitude b) (magnitude_word a h)))

left_over_signed_word : (a b : ℕ) → a < 2 ^ 64 → left_over_signed a b < 2 ^ 64
left_over_signed_word a b h = choice_word (b == 0) a (remainder_signed a b) h (with_sign_word (is_negative a) (magnitude a % magnitude b) (remainder_word (magnitude a) (magnitude b) (magnitude_word a h)))

pub shifted_signed_word : (a n : ℕ) → a < 2 ^ 64 → shifted_right_signed a n < 2 ^ 64
shifted_signed_word a n h = choice_word (nat_lt a (2 ^ 63)) (a / 2 ^ n) (complement (complement a / 2 ^ n)) (quotient_word a (2 ^ n) h) (omega arith)

pub high_word : (n : ℕ) → n % 2 ^ 128 / 2 ^ 64 < 2 ^ 64
high_word n = grind arith

pub high_product_word : (a b : ℕ) → a < 2 ^ 64 → b < 2 ^ 64 → high_product a b < 2 ^ 64
high_product_word a b h k =
    let small : a * b < 2 ^ 64 * 2 ^ 64 = mul-lt a b (2 ^ 64) (2 ^ 64) h k in
    let p = a * b in
    divide p small
  where
    divide : (p : ℕ) → p < 2 ^ 64 * 2 ^ 64 → p / 2 ^ 64 < 2 ^ 64
    divide p h = omega (arith, h)

pub reg_word : (op : RegOp) (a b : ℕ) → a < 2 ^ 64 → b < 2 ^ 64 → reg_value op a b < 2 ^ 64
reg_word Add a b h k = low_word (a + b)
reg_word Sub a b h k = low_word (a + (2 ^ 64 - b))
reg_word Sll a b h k = low_word (a * 2 ^ (b % 64))
reg_word Slt a b h k = test_word _
reg_word Sltu a b h k = test_word _
reg_word Xor a b h k = xor_lt 64 a b h k
reg_word Srl a b h k = quotient_word a (2 ^ (b % 64)) h
reg_word Sra a b h k = shifted_signed_word a (b % 64) h
reg_word Or a b h k = or_lt 64 a b h k
reg_word And a b h k = let le : bit_and a b ≤ a = and_le_l a b in omega (arith, le, h)
reg_word Addw a b h k = sign_32_word _
reg_word Subw a b h k = sign_32_word _
reg_word Sllw a b h k = sign_32_word _
reg_word Srlw a b h k = sign_32_word _
reg_word Sraw a b h k = shifted_signed_word (sign_32 a) (b % 32) (sign_32_word a)
reg_word Mul a b h k = low_word (a * b)
reg_word Mulh a b h k = high_word (extended a * extended b)
reg_word Mulhsu a b h k = high_word (extended a * b)
reg_word Mulhu a b h k = high_product_word a b h k
reg_word Div a b h k = divided_signed_word a b h
reg_word Divu a b h k = divided_word a b h
reg_word Rem a b h k = left_over_signed_word a b h
reg_word Remu a b h k = left_over_word a b h
reg_word Mulw a b h k = sign_32_word _
reg_word Divw a b h k = sign_32_word _
reg_word Divuw a b h k = sign_32_word _
reg_word Remw a b h k = sign_32_word _
reg_word Remuw a b h k = sign_32_word _

pub shift_word : (op : ShiftOp) (a n : ℕ) → a < 2 ^ 64 → n < 2 ^ 64 → shift_value op a n < 2 ^ 64
shift_word Slli a n h k = reg_word Sll a n h k
shift_word Srli a n h k = reg_word Srl a n h k
shift_word Srai a n h k = reg_word Sra a n h k
shift_word Slliw a n h k = reg_word Sllw a n h k
shift_word Srliw a n h k = reg_word Srlw a n h k
shift_word Sraiw a n h k = reg_word Sraw a n h k

-- what a load extends
pub sign_1_word : (n : ℕ) → sign_part_of n 1 < 2 ^ 64
sign_1_word n = grind arith

pub sign_2_word : (n : ℕ) → sign_part_of n 2 < 2 ^ 64
sign_2_word n = grind arith

pub sign_4_word : (n : ℕ) → sign_part_of n 4 < 2 ^ 64
sign_4_word n = grind arith
