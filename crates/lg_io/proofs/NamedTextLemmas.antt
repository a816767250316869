-- The first text of a name, and reading from a text.
use Rattle.std.proofs.Common.{◌≡◌, ℕ, suc, ◌+◌, ◌-◌, ◌<◌, List, [], ◌∷◌, ◌++◌, Some, true, length, get_or, take, drop, min, drop-cons, refl, sym, ap, ◌∙◌, arith}
use Rattle.std.specs.Str.{bytes_eq}
use Rattle.std.proofs.lemmas.List.{get_or_read, take_at, drop-drop, drop_all, take-append-drop, length-take, length-drop}
use Rattle.lg_io.specs.NamedTexts.{NamedTexts, text_under}
use Rattle.lg_io.specs.Rests.{rest_of}

-- where no text before a place has the name and the one there has it, that is the one
pub text_under-found : (texts : NamedTexts) (place : ℕ) (named : List ℕ × List ℕ) (name : List ℕ) → place < length texts → named ≡ get_or texts place named → bytes_eq named.0 name ≡ true → text_under (drop place texts) name ≡ text_under texts name → text_under texts name ≡ Some (rest_of texts (Some place) 0)
text_under-found texts place named name within is has before =
    let at : drop place texts ≡ named ∷ drop (suc place) texts = drop-cons texts place named within ∙ ap (λ x. x ∷ drop (suc place) texts) (sym is) in
    let here : text_under (drop place texts) name ≡ Some named.1 = rw (at, has) refl in
    sym before ∙ here ∙ ap (λ (x : List ℕ × List ℕ). Some x.1) (get_or_read texts place named within is ([], []))

-- the bytes that are moved into a slice are those that are taken from the text
pub read-consumes : (text into : List ℕ) (offset n : ℕ) → n ≡ min (length text - offset) (length into) → drop offset text ≡ take n (take n (drop offset text) ++ drop n into) ++ drop (offset + n) text
read-consumes text into offset n e =
    let len : length (take n (drop offset text)) ≡ n = omega (arith, length-take n (drop offset text), length-drop offset text) in
    rw (take_at (take n (drop offset text)) (drop n into) n len, ← drop-drop n offset text) (sym (take-append-drop n (drop offset text)))

-- none are moved only at the end, or where the slice is empty
pub read-end : (text into : List ℕ) (offset n : ℕ) → n ≡ min (length text - offset) (length into) → n ≡ 0 → 0 < length into → drop (offset + n) text ≡ []
read-end text into offset n e z some = drop_all (offset + n) text (omega arith)
