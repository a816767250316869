-- The table of the bytes of words is that of their definition.
use Rattle.std.proofs.Common.{◌≡◌, ℕ, zero, suc, ◌+◌, ◌<◌, Bool, true, false, ◌&&◌, List, [], ◌∷◌, length, get_or, refl, sym, ap, ◌∙◌, arith}
use Rattle.std.proofs.lemmas.Bool.{and_parts, false≢true}
use Rattle.lg_base.specs.WordBytes.{is_word_byte}
use Rattle.lg_lex.specs.declared.bytes.TheConstants.{GOES_ON}

abbrev alike : Bool → Bool → Bool
alike true b = b
alike false true = false
alike false false = true

alike_is : (a b : Bool) → alike a b ≡ true → a ≡ b
alike_is true b e = sym e
alike_is false true e = absurd (false≢true e)
alike_is false false e = refl

-- a table from a byte on
abbrev agrees : ℕ → List Bool → Bool
agrees n [] = true
agrees n (x ∷ xs) = alike x (is_word_byte n) && agrees (n + 1) xs

agrees_at : (n : ℕ) (xs : List Bool) (k : ℕ) → agrees n xs ≡ true → k < length xs → get_or xs k false ≡ is_word_byte (n + k)
agrees_at n [] k e h = absurd (omega arith)
agrees_at n (x ∷ xs) zero e h =
    let parts = and_parts (alike x (is_word_byte n)) (agrees (n + 1) xs) e in
    let same : n ≡ n + 0 = omega arith in
    alike_is x (is_word_byte n) parts.0 ∙ ap is_word_byte same
agrees_at n (x ∷ xs) (suc k) e h =
    let parts = and_parts (alike x (is_word_byte n)) (agrees (n + 1) xs) e in
    let same : (n + 1) + k ≡ n + suc k = omega arith in
    agrees_at (n + 1) xs k parts.1 (omega arith) ∙ ap is_word_byte same

pub goes_on : (b : ℕ) → b < 256 → get_or GOES_ON b false ≡ is_word_byte b
goes_on b h = agrees_at 0 GOES_ON b refl h ∙ (let same : 0 + b ≡ b = omega arith in ap is_word_byte same)
