-- The table of hexadecimal digits.
use Rattle.std.proofs.Common.{◌≡◌, ℕ, zero, suc, ◌+◌, ◌*◌, ◌/◌, ◌%◌, ◌<◌, Bool, true, false, ◌&&◌, ◌==◌, List, [], ◌∷◌, length, get_or, refl, ap, ◌∙◌, arith}
use Rattle.std.proofs.lemmas.Bool.{and_parts, false≢true}
use Rattle.std.proofs.lemmas.Bool.Decides.{nat_tests}
use Rattle.std.specs.Fmt.{digit_glyph}
use Rattle.lg_list.specs.declared.line.TheConstants.{PAIRS}

-- a table from a byte on
abbrev agrees : ℕ → List ℕ → Bool
agrees n [] = true
agrees n (x ∷ []) = false
agrees n (x ∷ y ∷ xs) = (x == digit_glyph false (n / 16)) && ((y == digit_glyph false (n % 16)) && agrees (n + 1) xs)

same : (a b : ℕ) → (a == b) ≡ true → a ≡ b
same a b e = grind (arith, nat_tests)

agrees_at : (n : ℕ) (xs : List ℕ) (k : ℕ) → agrees n xs ≡ true → 2 * k + 1 < length xs
    → (get_or xs (2 * k) 0 ≡ digit_glyph false ((n + k) / 16)) × (get_or xs (2 * k + 1) 0 ≡ digit_glyph false ((n + k) % 16))
agrees_at n [] k e h = absurd (omega arith)
agrees_at n (x ∷ []) k e h = absurd (false≢true e)
agrees_at n (x ∷ y ∷ xs) zero e h =
    let parts = and_parts (x == digit_glyph false (n / 16)) ((y == digit_glyph false (n % 16)) && agrees (n + 1) xs) e in
    let more = and_parts (y == digit_glyph false (n % 16)) (agrees (n + 1) xs) parts.1 in
    let at : n ≡ n + 0 = omega arith in
    (same x (digit_glyph false (n / 16)) parts.0 ∙ ap (λ m. digit_glyph false (m / 16)) at, same y (digit_glyph false (n % 16)) more.0 ∙ ap (λ m. digit_glyph false (m % 16)) at)
agrees_at n (x ∷ y ∷ xs) (suc k) e h =
    let parts = and_parts (x == digit_glyph false (n / 16)) ((y == digit_glyph false (n % 16)) && agrees (n + 1) xs) e in
    let more = and_parts (y == digit_glyph false (n % 16)) (agrees (n + 1) xs) parts.1 in
    let at : (n + 1) + k ≡ n + suc k = omega arith in
    let two : 2 * suc k ≡ suc (suc (2 * k)) = omega arith in
    let three : 2 * suc k + 1 ≡ suc (suc (2 * k + 1)) = omega arith in
    let rest = agrees_at (n + 1) xs k more.1 (omega (arith, h)) in
    (ap (λ i. get_or (x ∷ y ∷ xs) i 0) two ∙ rest.0 ∙ ap (λ m. digit_glyph false (m / 16)) at, ap (λ i. get_or (x ∷ y ∷ xs) i 0) three ∙ rest.1 ∙ ap (λ m. digit_glyph false (m % 16)) at)

pub pair-high : (b : ℕ) → b < 256 → get_or PAIRS (2 * b) 0 ≡ digit_glyph false (b / 16)
pair-high b h = (agrees_at 0 PAIRS b refl (omega (arith, h))).0 ∙ (let at : 0 + b ≡ b = omega arith in ap (λ m. digit_glyph false (m / 16)) at)

pub pair-low : (b : ℕ) → b < 256 → get_or PAIRS (2 * b + 1) 0 ≡ digit_glyph false (b % 16)
pair-low b h = (agrees_at 0 PAIRS b refl (omega (arith, h))).1 ∙ (let at : 0 + b ≡ b = omega arith in ap (λ m. digit_glyph false (m % 16)) at)
