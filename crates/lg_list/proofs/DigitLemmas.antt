-- Numbers of one, two and three decimal digits.
use Rattle.std.proofs.Common.{◌≡◌, ◌≢◌, ℕ, suc, ◌/◌, ◌%◌, ◌<◌, ◌≤◌, false, List, [], ◌∷◌, ap, ◌∙◌, arith}
use Rattle.std.specs.Prelude.{if◌then◌else◌}
use Rattle.std.specs.Fmt.{digits, digits_onto, digit_glyph}
use Rattle.std.proofs.lemmas.Bool.{eq-eqb, ne_eqb}
use Rattle.lg_list.specs.Texts.{decimal}

-- with a tail that is there already, the last digit is put before it, and no other where the number is one digit
onto_last : (k n : ℕ) (tail : List ℕ) → n < 10 → digits_onto (suc k) 10 false n tail ≡ digit_glyph false n ∷ tail
onto_last k n tail low =
    let whole : n / 10 ≡ 0 = omega (arith, low) in
    let rest : n % 10 ≡ n = omega (arith, low) in
    ap (λ b. if b then (digit_glyph false (n % 10) ∷ tail) else (digits_onto k 10 false (n / 10) (digit_glyph false (n % 10) ∷ tail))) (eq-eqb _ 0 whole)
    ∙ ap (λ d. digit_glyph false d ∷ tail) rest

onto_more : (k n : ℕ) (tail : List ℕ) → 10 ≤ n → digits_onto (suc k) 10 false n tail ≡ digits_onto k 10 false (n / 10) (digit_glyph false (n % 10) ∷ tail)
onto_more k n tail high =
    let whole : n / 10 ≢ 0 = λ e. omega (arith, high, e) in
    ap (λ b. if b then (digit_glyph false (n % 10) ∷ tail) else (digits_onto k 10 false (n / 10) (digit_glyph false (n % 10) ∷ tail))) (ne_eqb _ 0 whole)

pub decimal-one : (n : ℕ) → n < 10 → decimal n ≡ digit_glyph false n ∷ []
unfolding digits
decimal-one n low = onto_last 63 n [] low

pub decimal-two : (n : ℕ) → 10 ≤ n → n < 100 → decimal n ≡ digit_glyph false (n / 10) ∷ digit_glyph false (n % 10) ∷ []
unfolding digits
decimal-two n high low = onto_more 63 n [] high ∙ onto_last 62 (n / 10) (digit_glyph false (n % 10) ∷ []) (omega (arith, high, low))

pub decimal-three : (n : ℕ) → 100 ≤ n → n < 1000 → decimal n ≡ digit_glyph false (n / 10 / 10) ∷ digit_glyph false (n / 10 % 10) ∷ digit_glyph false (n % 10) ∷ []
unfolding digits
decimal-three n high low =
    onto_more 63 n [] (omega (arith, high)) ∙ onto_more 62 (n / 10) (digit_glyph false (n % 10) ∷ []) (omega (arith, high))
    ∙ onto_last 61 (n / 10 / 10) (digit_glyph false (n / 10 % 10) ∷ digit_glyph false (n % 10) ∷ []) (omega (arith, low))
