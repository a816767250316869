-- Quotients of words are those of double words with the sign or zeros above.
use Rattle.std.proofs.Common.{◌≡◌, ℕ, ◌+◌, ◌*◌, ◌/◌, ◌%◌, ◌^◌, ◌<◌, ◌≤◌, Bool, true, false, Some, refl, ap, ◌∙◌, arith}
use Rattle.std.specs.Prelude.{◌==◌, ◌||◌, not, nat_lt, nat_le, if◌then◌else◌, None}
use Rattle.std.proofs.Math.Nat.{div-le_self, div-lt_iff_lt-mul}
use Rattle.lg_base.specs.Words.{magnitude, is_negative, differ, with_sign, quotient_signed, remainder_signed}
use Rattle.lg_base.specs.Wide.{wide_magnitude, fits_signed, quotient_wide, quotient_wide_signed}
use Rattle.lg_op.specs.Operators.{is_least_by_minus_one, divides}
use Rattle.lg_cpu.specs.X86Operators.{sign_word}

wide-is : (a : ℕ) → a < 2 ^ 64 → wide_magnitude (sign_word a) a ≡ magnitude a
wide-is a h = grind (arith, h)

sign-is : (a : ℕ) → a < 2 ^ 64 → is_negative (sign_word a) ≡ is_negative a
sign-is a h = grind (arith, h)

divides-some : (a b : ℕ) → divides a b ≡ true → (b == 0) ≡ false
divides-some a b h = by (b == 0) h
  where
    by : (k : Bool) → not (k || is_least_by_minus_one a b) ≡ true → k ≡ false
    by true e = cc
    by false e = refl

least : (a b : ℕ) → divides a b ≡ true → is_least_by_minus_one a b ≡ false
least a b h = by (b == 0) (is_least_by_minus_one a b) h
  where
    by : (k l : Bool) → not (k || l) ≡ true → l ≡ false
    by true l e = cc
    by false true e = cc
    by false false e = refl

magnitude-facts : (a : ℕ) → a < 2 ^ 64 → magnitude a ≤ 2 ^ 63
magnitude-facts a h = grind (arith, h)

magnitude-some : (b : ℕ) → b < 2 ^ 64 → (b == 0) ≡ false → 0 < magnitude b
magnitude-some b h e = grind (arith, h, e)

-- where the signs are the same, the least word is divided by no word of size 1
smaller : (a b : ℕ) → a < 2 ^ 64 → b < 2 ^ 64 → is_least_by_minus_one a b ≡ false → (b == 0) ≡ false → differ (is_negative a) (is_negative b) ≡ false → magnitude a < 2 ^ 63 * magnitude b
smaller a b h k l z s =
    let small = magnitude-facts a h in
    let some = magnitude-some b k z in
    let edge : magnitude b ≡ 1 → magnitude a < 2 ^ 63 = λ one. grind (arith, h, k, l, z, s, one) in
    grind (arith, small, some, edge)

fits : (a b : ℕ) → a < 2 ^ 64 → b < 2 ^ 64 → divides a b ≡ true → fits_signed (differ (is_negative a) (is_negative b)) (magnitude a / magnitude b) ≡ true
fits a b h k d = by (differ (is_negative a) (is_negative b)) refl
  where
    some : 0 < magnitude b
    some = magnitude-some b k (divides-some a b d)

    by : (n : Bool) → differ (is_negative a) (is_negative b) ≡ n → fits_signed n (magnitude a / magnitude b) ≡ true
    by true e = let le : magnitude a / magnitude b ≤ magnitude a = div-le_self (magnitude a) (magnitude b) in let m = magnitude-facts a h in let z : magnitude a / magnitude b ≤ 2 ^ 63 = omega (arith, le, m) in let q = magnitude a / magnitude b in holds q z
      where
        holds : (q : ℕ) → q ≤ 2 ^ 63 → nat_le q (2 ^ 63) ≡ true
        holds q z = grind (arith, z)
    by false e = let z : magnitude a / magnitude b < 2 ^ 63 = (div-lt_iff_lt-mul some).1 (smaller a b h k (least a b d) (divides-some a b d) e) in holds (magnitude a / magnitude b) z
      where
        holds : (q : ℕ) → q < 2 ^ 63 → nat_lt q (2 ^ 63) ≡ true
        holds q z = grind (arith, z)

pub signed-quotient : (a b : ℕ) → a < 2 ^ 64 → b < 2 ^ 64 → divides a b ≡ true → quotient_wide_signed (sign_word a) a b ≡ Some (quotient_signed a b, remainder_signed a b)
signed-quotient a b h k d =
    (λ i. let size = wide-is a h i in let negative = sign-is a h i in
    if b == 0 then None else if fits_signed (differ negative (is_negative b)) (size / magnitude b) then Some (with_sign (differ negative (is_negative b)) (size / magnitude b), with_sign negative (size % magnitude b)) else None)
    ∙ ap (λ z. if z then None else if fits_signed (differ (is_negative a) (is_negative b)) (magnitude a / magnitude b) then Some (with_sign (differ (is_negative a) (is_negative b)) (magnitude a / magnitude b), with_sign (is_negative a) (magnitude a % magnitude b)) else None) (divides-some a b d)
    ∙ ap (λ z. if z then Some (with_sign (differ (is_negative a) (is_negative b)) (magnitude a / magnitude b), with_sign (is_negative a) (magnitude a % magnitude b)) else None) (fits a b h k d)

some-below : (b : ℕ) → (b == 0) ≡ false → ((b == 0) || nat_le b 0) ≡ false
some-below b h = grind (arith, h)

pub unsigned-quotient : (a b : ℕ) → not (b == 0) ≡ true → quotient_wide 0 a b ≡ Some (a / b, a % b)
unsigned-quotient a b h =
    let zero : 0 * 2 ^ 64 + a ≡ a = omega arith in
    ap (λ z. if (b == 0) || nat_le b 0 then None else Some (z / b, z % b)) zero ∙ ap (λ z. if z then None else Some (a / b, a % b)) (some-below b (by (b == 0) h))
  where
    by : (k : Bool) → not k ≡ true → k ≡ false
    by true e = cc
    by false e = refl
