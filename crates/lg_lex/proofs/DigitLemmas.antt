-- A number of digits only grows as further digits come, and it fits a word or it does not.
use Rattle.std.proofs.Common.{◌≡◌, ℕ, ◌+◌, ◌*◌, ◌<◌, ◌≤◌, ◌^◌, ltb, List, [], ◌∷◌, length, get_or, take, drop, sym, ap, subst, ◌∙◌, arith, Option, Some, None, ◌⊎◌, inl, inr}
use Rattle.std.specs.List.{fold}
use Rattle.std.specs.Char.{digit_value}
use Rattle.std.specs.Option.{unwrap_or}
use Rattle.std.specs.Prelude.{SomeIff}
use Rattle.std.proofs.lemmas.Bool.{cases_lt}
use Rattle.std.proofs.lemmas.List.{take-append-drop}
use Rattle.std.proofs.lemmas.List.Sums.{fold_more, fold-append}
use Rattle.std.proofs.lemmas.Option.{cond_some}
use Rattle.std.proofs.lemmas.Bool.Decides.{nat_tests}
use Rattle.std.proofs.Math.Nat.{mul-le-mul_left}
use Rattle.lg_lex.specs.Numbers.{with_digit, digits_value, narrowed}

pub narrowed-fits : (n : ℕ) → n < 2 ^ 64 → narrowed n ≡ Some n
unfolding narrowed
narrowed-fits n h = grind (arith, nat_tests)

pub narrowed-wide : (n : ℕ) → 2 ^ 64 ≤ n → narrowed n ≡ None
unfolding narrowed
narrowed-wide n h = grind (arith, nat_tests)

-- what a number that fits, and one that does not, says of it
pub narrowed_some : (n v : ℕ) → narrowed n ≡ Some v → (n ≡ v) × (n < 2 ^ 64)
unfolding narrowed
narrowed_some n v h = let e = cond_some (ltb n (2 ^ 64)) n v h in grind (arith, nat_tests)

pub narrowed_none : (n : ℕ) → narrowed n ≡ None → 2 ^ 64 ≤ n
unfolding narrowed
narrowed_none n h = grind (arith, nat_tests)

grows : (radix n : ℕ) (digits : List ℕ) → 0 < radix → n ≤ fold (with_digit radix) n digits
grows radix n [] h = omega arith
grows radix n (b ∷ digits) h =
    let more = grows radix (with_digit radix n b) digits h in
    let product = mul-le-mul_left n h in
    omega arith

-- one digit more
pub digits_value_more : (radix : ℕ) (digits : List ℕ) (i : ℕ) → i < length digits → digits_value radix (take (i + 1) digits) ≡ with_digit radix (digits_value radix (take i digits)) (get_or digits i 0)
digits_value_more radix digits i h = fold_more (with_digit radix) 0 digits i 0 h

-- the first digits have no larger value than all
pub first_digits_below : (radix : ℕ) (digits : List ℕ) (i : ℕ) → 0 < radix → digits_value radix (take i digits) ≤ digits_value radix digits
first_digits_below radix digits i h =
    let parts = sym (fold-append (with_digit radix) 0 (take i digits) (drop i digits)) ∙ ap (fold (with_digit radix) 0) (take-append-drop i digits) in
    let more = grows radix (digits_value radix (take i digits)) (drop i digits) h in
    omega arith

digit_most : (c : ℕ) → digit_value c ≤ 36
digit_most c = grind (arith, nat_tests)

-- a digit of a radix up to 36, and 36 where there is none
pub digit_or : (c : ℕ) (o : Option ℕ) → SomeIff o (digit_value c < 36) (digit_value c) → unwrap_or o 36 ≡ digit_value c
digit_or c (Some x) is = is.1
digit_or c None is = by (cases_lt (digit_value c) 36)
  where
    by : (digit_value c < 36) ⊎ (36 ≤ digit_value c) → 36 ≡ digit_value c
    by (inl less) = absurd (is less)
    by (inr more) = let most : digit_value c ≤ 36 = digit_most c in omega (arith, more, most)

-- a sum that is kept where it fits is the number where that fits
pub sum_narrowed : (o : Option ℕ) (n m : ℕ) → SomeIff o (n < 2 ^ 64) n → n ≡ m → o ≡ narrowed m
sum_narrowed (Some x) n m is same = ap (λ v. Some v) is.1 ∙ sym (narrowed-fits n is.0) ∙ ap narrowed same
sum_narrowed None n m is same = by (cases_lt n (2 ^ 64))
  where
    by : (n < 2 ^ 64) ⊎ (2 ^ 64 ≤ n) → None ≡ narrowed m
    by (inl less) = absurd (is less)
    by (inr more) = sym (narrowed-wide n more) ∙ ap narrowed same

-- a product that does not fit makes a number that does not
pub product_wide : (n r radix d : ℕ) → (n * r < 2 ^ 64 → ⊥) → r ≡ radix → None ≡ narrowed (n * radix + d)
product_wide n r radix d wide same = by (cases_lt (n * r) (2 ^ 64))
  where
    by : (n * r < 2 ^ 64) ⊎ (2 ^ 64 ≤ n * r) → None ≡ narrowed (n * radix + d)
    by (inl less) = absurd (wide less)
    by (inr more) = let here : 2 ^ 64 ≤ n * radix = subst (λ (k : ℕ). 2 ^ 64 ≤ n * k) same more in sym (narrowed-wide (n * radix + d) (omega (arith, here)))
