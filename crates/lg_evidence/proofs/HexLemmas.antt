-- Digits, two a byte.
use Rattle.std.proofs.Common.{◌≡◌, ℕ, suc, ◌+◌, ◌*◌, ◌/◌, ◌%◌, ◌<◌, List, [], ◌∷◌, ◌++◌, length, take, get_or, refl, ap, sym, ◌∙◌, append_assoc, arith}
use Rattle.std.proofs.Math.Seq.{take-suc}
use Rattle.lg_evidence.specs.Hex.{hex_digit, hex_of}

hex_of-push : (bytes : List ℕ) (b : ℕ) → hex_of (bytes ++ b ∷ []) ≡ hex_of bytes ++ (hex_digit (b / 16) ∷ hex_digit (b % 16) ∷ [])
hex_of-push [] b = refl
hex_of-push (x ∷ xs) b = ap (λ ds. hex_digit (x / 16) ∷ hex_digit (x % 16) ∷ ds) (hex_of-push xs b)

take_two : (digits : List ℕ) (n : ℕ) → n + 1 < length digits → take (suc (suc n)) digits ≡ take n digits ++ (get_or digits n 0 ∷ get_or digits (suc n) 0 ∷ [])
take_two digits n h =
    take-suc digits (suc n) 0 (omega arith)
    ∙ (ap (λ ds. ds ++ get_or digits (suc n) 0 ∷ []) (take-suc digits n 0 (omega arith)) ∙ append_assoc (take n digits) (get_or digits n 0 ∷ []) (get_or digits (suc n) 0 ∷ []))

-- the digits of one byte more
pub one_more : (bytes digits : List ℕ) (k high low b : ℕ) → 2 * k + 1 < length digits → hex_of bytes ≡ take (2 * k) digits → hex_digit high ≡ get_or digits (2 * k) 0
    → hex_digit low ≡ get_or digits (2 * k + 1) 0 → low < 16 → b ≡ high * 16 + low → hex_of (bytes ++ b ∷ []) ≡ take (2 * (k + 1)) digits
one_more bytes digits k high low b long so_far is_high is_low small e =
    let first : b / 16 ≡ high = omega arith in
    let second : b % 16 ≡ low = omega arith in
    let next : 2 * k + 1 ≡ suc (2 * k) = omega arith in
    let two : 2 * (k + 1) ≡ suc (suc (2 * k)) = omega arith in
    let last = is_low ∙ ap (λ i. get_or digits i 0) next in
    hex_of-push bytes b
    ∙ (rw (so_far, first, second, is_high, last) (sym (take_two digits (2 * k) long)) ∙ ap (λ n. take n digits) (sym two))
