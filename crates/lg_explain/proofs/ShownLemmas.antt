-- Bytes that are shown piece by piece.
use Rattle.std.proofs.Common.{◌≡◌, ℕ, zero, suc, ◌+◌, ◌<◌, ◌≤◌, List, [], ◌∷◌, ◌++◌, length, take, map, get_or, refl, sym, ap, ◌∙◌, subst, arith, append_assoc}
use Rattle.std.specs.Borrow.{Bor}
use Rattle.std.proofs.lemmas.List.{length-map, map-append, take-map, take_more, append-nil, take_all}
use Rattle.lg_io.specs.Wrote.{joined}
use Rattle.lg_io.proofs.WroteLemmas.{joined-more}
use Rattle.lg_explain.specs.Lines.{most_shown, shown, shown_byte}

-- at most this many are taken, and what has no room is left out, sooner or later
pub take_short : {X : Type 0} (n : ℕ) (xs : List X) → length (take n xs) ≤ n
take_short (suc n) (x ∷ xs) = let h = take_short n xs in omega (arith, h)
take_short _ _ = omega arith

pub take_twice : {X : Type 0} (n : ℕ) (xs ys : List X) → take n (take n xs ++ ys) ≡ take n (xs ++ ys)
take_twice (suc n) (x ∷ xs) ys = ap (λ l. x ∷ l) (take_twice n xs ys)
take_twice _ _ ys = refl

-- one more, where there is room, and where there is none
pub with_room : {X : Type 0} (n : ℕ) (xs : List X) (b : X) → length (take n xs) < n → take n (xs ++ b ∷ []) ≡ take n xs ++ b ∷ []
with_room zero xs b lt = let no : ⊥ = omega (arith, lt) in absurd no
with_room (suc zero) [] b lt = refl
with_room (suc (suc n)) [] b lt = refl
with_room (suc n) (x ∷ xs) b lt = ap (λ l. x ∷ l) (with_room n xs b (omega (arith, lt)))

pub without_room : {X : Type 0} (n : ℕ) (xs ys : List X) → n ≤ length (take n xs) → take n (xs ++ ys) ≡ take n xs
without_room zero xs ys le = refl
without_room (suc n) [] ys le = let no : ⊥ = omega (arith, le) in absurd no
without_room (suc n) (x ∷ xs) ys le = ap (λ l. x ∷ l) (without_room n xs ys (omega (arith, le)))

-- ---- a byte more of a piece
further : (old bytes : List ℕ) (i d : ℕ) → i < length bytes
    → old ++ map shown_byte (take (i + 1) bytes) ≡ (old ++ map shown_byte (take i bytes)) ++ shown_byte (get_or bytes i d) ∷ []
further old bytes i d lt =
    ap (λ l. old ++ map shown_byte l) (take_more bytes i d lt) ∙ ap (λ l. old ++ l) (map-append shown_byte (take i bytes) (get_or bytes i d ∷ []))
    ∙ sym (append_assoc old (map shown_byte (take i bytes)) (shown_byte (get_or bytes i d) ∷ []))

pub byte_added : (old bytes s : List ℕ) (i d : ℕ) → i < length bytes → s ≡ take most_shown (old ++ map shown_byte (take i bytes)) → length s < most_shown
    → s ++ shown_byte (get_or bytes i d) ∷ [] ≡ take most_shown (old ++ map shown_byte (take (i + 1) bytes))
byte_added old bytes s i d lt is room =
    let so : List ℕ = old ++ map shown_byte (take i bytes) in
    let short : length (take most_shown so) < most_shown = subst (λ l. length l < most_shown) is room in
    ap (λ l. l ++ shown_byte (get_or bytes i d) ∷ []) is ∙ sym (with_room most_shown so (shown_byte (get_or bytes i d)) short)
    ∙ ap (take most_shown) (sym (further old bytes i d lt))

pub byte_left : (old bytes s : List ℕ) (i d : ℕ) → i < length bytes → s ≡ take most_shown (old ++ map shown_byte (take i bytes)) → most_shown ≤ length s
    → s ≡ take most_shown (old ++ map shown_byte (take (i + 1) bytes))
byte_left old bytes s i d lt is full =
    let so : List ℕ = old ++ map shown_byte (take i bytes) in
    let long : most_shown ≤ length (take most_shown so) = subst (λ l. most_shown ≤ length l) is full in
    is ∙ sym (without_room most_shown so (shown_byte (get_or bytes i d) ∷ []) long) ∙ ap (take most_shown) (sym (further old bytes i d lt))

pub no_byte : (old bytes : List ℕ) → length old ≤ most_shown → old ≡ take most_shown (old ++ map shown_byte (take 0 bytes))
no_byte old bytes short = sym (ap (take most_shown) (append-nil old) ∙ take_all most_shown old short)

-- ---- a piece more of a row
pub shown_short : (xs : List ℕ) → length (shown xs) ≤ most_shown
shown_short xs = let h = take_short most_shown xs in omega (arith, h, length-map (take most_shown xs) shown_byte)

pub piece_added : (ps : List (Bor (List ℕ))) (s : List ℕ) (i : ℕ) (d : Bor (List ℕ)) → i < length ps → s ≡ shown (joined (take i ps))
    → take most_shown (s ++ map shown_byte (get_or ps i d).now) ≡ shown (joined (take (i + 1) ps))
piece_added ps s i d lt is =
    let row : List ℕ = joined (take i ps) in
    let piece : List ℕ = (get_or ps i d).now in
    ap (λ l. take most_shown (l ++ map shown_byte piece)) is
    ∙ ap (take most_shown) (sym (map-append shown_byte (take most_shown row) piece))
    ∙ take-map shown_byte most_shown (take most_shown row ++ piece)
    ∙ ap (map shown_byte) (take_twice most_shown row piece)
    ∙ ap shown (sym (joined-more ps i d lt))
