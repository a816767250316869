-- Digits of bytes.
use Rattle.std.proofs.Common.{◌≡◌, ℕ, ◌+◌, ◌*◌, ◌/◌, ◌%◌, ◌<◌, false, List, [], ◌∷◌, ◌++◌, length, take, get_or, refl, sym, ap, ◌∙◌, arith, append_assoc}
use Rattle.std.specs.Fmt.{digit_glyph}
use Rattle.std.proofs.lemmas.List.{take_more}
use Rattle.lg_list.specs.Texts.{hex}

pub hex-append : (a b : List ℕ) → hex (a ++ b) ≡ hex a ++ hex b
hex-append [] b = refl
hex-append (x ∷ a) b = ap (λ t. digit_glyph false (x / 16) ∷ digit_glyph false (x % 16) ∷ t) (hex-append a b)

pub length-hex : (bs : List ℕ) → length (hex bs) ≡ 2 * length bs
length-hex [] = refl
length-hex (b ∷ bs) = let h = length-hex bs in omega arith

-- two digits more
pub hex_more : (bs xs : List ℕ) (i : ℕ) (d : ℕ) → i < length bs → (xs ++ hex (take i bs)) ++ hex (get_or bs i d ∷ []) ≡ xs ++ hex (take (i + 1) bs)
hex_more bs xs i d lt = append_assoc xs (hex (take i bs)) (hex (get_or bs i d ∷ [])) ∙ ap (λ t. xs ++ t) (sym (hex-append (take i bs) (get_or bs i d ∷ [])) ∙ ap hex (sym (take_more bs i d lt)))
