-- What the instructions of A64 compute is a word.
use Rattle.std.proofs.Common.{ℕ, ◌+◌, ◌-◌, ◌*◌, ◌/◌, ◌%◌, ◌^◌, ◌<◌, ◌≤◌, Bool, true, false, arith}
use Rattle.std.specs.Prelude.{◌==◌, nat_lt, nat_le, bit_and, if◌then◌else◌}
use Rattle.std.proofs.lemmas.Nat.{and_le_l, or_lt, xor_lt, pow_pos}
use Rattle.std.proofs.Math.Nat.{mod-lt, pow-le-pow_right}
use Rattle.lg_base.specs.Words.{extended, complement, quotient_signed, differ, is_negative, magnitude, shifted_right, mul_words}
use Rattle.lg_base.specs.Wide.{swapped}
use Rattle.lg_a64.specs.declared.instruction.RegOp.{RegOp}
use Rattle.lg_a64.specs.declared.instruction.RegOp.TheVariants.{Add, Adds, Sub, Subs, Adc, Adcs, Sbc, Sbcs, And, Orr, Eor, Ands, Orn, Smulh, Umulh, Udiv, Sdiv, Lslv, Lsrv, Asrv}
use Rattle.lg_a64.specs.declared.instruction.ImmOp.{ImmOp}
use Rattle.lg_a64.specs.declared.instruction.ImmOp.TheVariants.{Addi, Addsi, Subi, Subsi}
use Rattle.lg_a64.specs.declared.instruction.WideOp.{WideOp}
use Rattle.lg_a64.specs.declared.instruction.WideOp.TheVariants.{Movz, Movn, Movk}
use Rattle.lg_a64.specs.declared.instruction.MulAddOp.{MulAddOp}
use Rattle.lg_a64.specs.declared.instruction.MulAddOp.TheVariants.{Madd, Msub}
use Rattle.lg_a64.specs.declared.instruction.BitfieldOp.{BitfieldOp}
use Rattle.lg_a64.specs.declared.instruction.BitfieldOp.TheVariants.{Sbfm, Ubfm}
use Rattle.lg_a64.specs.declared.instruction.ReverseOp.{ReverseOp}
use Rattle.lg_a64.specs.declared.instruction.ReverseOp.TheVariants.{Rev, Rev32, Rev16}
use Rattle.lg_base.specs.declared.flags.Flags.{Flags}
use Rattle.lg_cpu.specs.A64Operators.{reg_value, imm_value, wide_value, quarter, replaced, mul_add_value, bitfield_value, field_value, low_bits, csinc_value, reverse_value, carry_word, borrow_word}
use Rattle.lg_cpu.proofs.OperatorLemmas.{low_word, choice_word, quotient_word, magnitude_word, with_sign_word, shifted_signed_word, high_word, high_product_word}

complement_word : (a : ℕ) → complement a < 2 ^ 64
complement_word a = omega arith

pub a64-reg-word : (op : RegOp) (f : Flags) (a b : ℕ) → a < 2 ^ 64 → b < 2 ^ 64 → reg_value op f a b < 2 ^ 64
a64-reg-word Add f a b h k = low_word (a + b)
a64-reg-word Adds f a b h k = low_word (a + b)
a64-reg-word Sub f a b h k = low_word (a + (2 ^ 64 - b))
a64-reg-word Subs f a b h k = low_word (a + (2 ^ 64 - b))
a64-reg-word Adc f a b h k = low_word (a + b + carry_word f)
a64-reg-word Adcs f a b h k = low_word (a + b + carry_word f)
a64-reg-word Sbc f a b h k = low_word (a + (2 ^ 65 - (b + borrow_word f)))
a64-reg-word Sbcs f a b h k = low_word (a + (2 ^ 65 - (b + borrow_word f)))
a64-reg-word And f a b h k = let le : bit_and a b ≤ a = and_le_l a b in omega (arith, le, h)
a64-reg-word Ands f a b h k = let le : bit_and a b ≤ a = and_le_l a b in omega (arith, le, h)
a64-reg-word Orr f a b h k = or_lt 64 a b h k
a64-reg-word Eor f a b h k = xor_lt 64 a b h k
a64-reg-word Orn f a b h k = or_lt 64 a (complement b) h (complement_word b)
a64-reg-word Smulh f a b h k = high_word (extended a * extended b)
a64-reg-word Umulh f a b h k = high_product_word a b h k
a64-reg-word Udiv f a b h k = choice_word (b == 0) 0 (a / b) (omega arith) (quotient_word a b h)
a64-reg-word Sdiv f a b h k = choice_word (b == 0) 0 (quotient_signed a b) (omega arith) (with_sign_word (differ (is_negative a) (is_negative b)) (magnitude a / magnitude b) (quotient_word (magnitude a) (magnitude b) (magnitude_word a h)))
a64-reg-word Lslv f a b h k = low_word (a * 2 ^ (b % 64))
a64-reg-word Lsrv f a b h k = quotient_word a (2 ^ (b % 64)) h
a64-reg-word Asrv f a b h k = shifted_signed_word a (b % 64) h

pub a64-imm-word : (op : ImmOp) (a n : ℕ) → imm_value op a n < 2 ^ 64
a64-imm-word Addi a n = low_word (a + n)
a64-imm-word Addsi a n = low_word (a + n)
a64-imm-word Subi a n = low_word (a + (2 ^ 64 - n))
a64-imm-word Subsi a n = low_word (a + (2 ^ 64 - n))

-- ---- quarters
placed_word : (imm hw : ℕ) → imm < 2 ^ 16 → imm * quarter hw < 2 ^ 64
placed_word imm hw h = by (hw == 0) (hw == 1) (hw == 2)
  where
    by : (a b c : Bool) → imm * (if a then 1 else if b then 2 ^ 16 else if c then 2 ^ 32 else 2 ^ 48) < 2 ^ 64
    by true b c = omega (arith, h)
    by false true c = omega (arith, h)
    by false false true = omega (arith, h)
    by false false false = omega (arith, h)

replaced_word : (old imm hw : ℕ) → old < 2 ^ 64 → imm < 2 ^ 16 → replaced old (quarter hw) imm < 2 ^ 64
replaced_word old imm hw k h = by (hw == 0) (hw == 1) (hw == 2)
  where
    by : (a b c : Bool) → replaced old (if a then 1 else if b then 2 ^ 16 else if c then 2 ^ 32 else 2 ^ 48) imm < 2 ^ 64
    by true b c = omega (arith, h, k)
    by false true c = omega (arith, h, k)
    by false false true = omega (arith, h, k)
    by false false false = omega (arith, h, k)

pub a64-wide-word : (op : WideOp) (old imm hw : ℕ) → old < 2 ^ 64 → imm < 2 ^ 16 → wide_value op old imm hw < 2 ^ 64
a64-wide-word Movz old imm hw h k = placed_word imm hw k
a64-wide-word Movn old imm hw h k = complement_word (imm * quarter hw)
a64-wide-word Movk old imm hw h k = replaced_word old imm hw h k

pub a64-mul-add-word : (op : MulAddOp) (a b c : ℕ) → mul_add_value op a b c < 2 ^ 64
a64-mul-add-word Madd a b c = low_word (c + mul_words a b)
a64-mul-add-word Msub a b c = low_word (c + (2 ^ 64 - mul_words a b))

-- ---- bit fields
low_bits_small : (a p : ℕ) → 0 < p → p ≤ 2 ^ 64 → a % p < 2 ^ 64
low_bits_small a p some le = let lt : a % p < p = mod-lt a some in omega (arith, lt, le)

power_some : (n : ℕ) → 0 < 2 ^ n
power_some n = pow_pos n

power_small : (n : ℕ) → n ≤ 64 → 2 ^ n ≤ 2 ^ 64
power_small n h = pow-le-pow_right (omega arith) h

signed_small : (b : Bool) (field p : ℕ) → field < p → p ≤ 2 ^ 64 → (if b then field else field + (2 ^ 64 - p)) < 2 ^ 64
signed_small true field p lt le = omega (arith, lt, le)
signed_small false field p lt le = omega (arith, lt, le)

field_word : (op : BitfieldOp) (a count : ℕ) → count ≤ 64 → field_value op a count < 2 ^ 64
field_word Sbfm a count h = signed_small (nat_lt (low_bits a count) (2 ^ (count - 1))) (low_bits a count) (2 ^ count) (mod-lt a (power_some count)) (power_small count h)
field_word Ubfm a count h = low_bits_small a (2 ^ count) (power_some count) (power_small count h)

pub a64-bitfield-word : (op : BitfieldOp) (a immr imms : ℕ) → imms < 64 → bitfield_value op a immr imms < 2 ^ 64
a64-bitfield-word op a immr imms h = choice_word (nat_le immr imms) (field_value op (shifted_right a immr) (imms - immr + 1)) (field_value op a (imms + 1) * 2 ^ (64 - immr) % 2 ^ 64) (field_word op (shifted_right a immr) (imms - immr + 1) (omega (arith, h))) (low_word (field_value op a (imms + 1) * 2 ^ (64 - immr)))

pub a64-csinc-word : (chosen : Bool) (a b : ℕ) → a < 2 ^ 64 → csinc_value chosen a b < 2 ^ 64
a64-csinc-word chosen a b h = choice_word chosen a ((b + 1) % 2 ^ 64) h (low_word (b + 1))

two_small : (a : ℕ) → swapped a 2 < 2 ^ 16
two_small a = omega arith

four_small : (a : ℕ) → swapped a 4 < 2 ^ 32
four_small a = omega arith

eight_small : (a : ℕ) → swapped a 8 < 2 ^ 64
eight_small a = omega arith

halves : (x y : ℕ) → x < 2 ^ 32 → y < 2 ^ 32 → x + y * 2 ^ 32 < 2 ^ 64
halves x y h k = omega (arith, h, k)

quarters : (x y z u : ℕ) → x < 2 ^ 16 → y < 2 ^ 16 → z < 2 ^ 16 → u < 2 ^ 16 → x + y * 2 ^ 16 + z * 2 ^ 32 + u * 2 ^ 48 < 2 ^ 64
quarters x y z u h k l m = omega (arith, h, k, l, m)

pub a64-reverse-word : (op : ReverseOp) (a : ℕ) → reverse_value op a < 2 ^ 64
a64-reverse-word Rev a = eight_small a
a64-reverse-word Rev32 a = halves (swapped a 4) (swapped (a / 2 ^ 32) 4) (four_small a) (four_small (a / 2 ^ 32))
a64-reverse-word Rev16 a = quarters (swapped a 2) (swapped (a / 2 ^ 16) 2) (swapped (a / 2 ^ 32) 2) (swapped (a / 2 ^ 48) 2) (two_small a) (two_small (a / 2 ^ 16)) (two_small (a / 2 ^ 32)) (two_small (a / 2 ^ 48))
