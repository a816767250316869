-- Bytes that were written in pieces, and prefixes of them.
use Rattle.std.proofs.Common.{◌≡◌, ℕ, suc, ◌+◌, ◌<◌, List, [], ◌∷◌, ◌++◌, length, take, drop, get_or, map, Option, refl, sym, ap, ◌∙◌, subst, arith, append_assoc, length-append, drop-cons}
use Rattle.std.specs.Borrow.{Bor}
use Rattle.std.specs.Io.KnownBytes.{Appends}
use Rattle.std.proofs.KnownBytes.{Appends-trans}
use Rattle.std.proofs.lemmas.List.{take-append-drop, take-append-le, append-nil, take_more}
use Rattle.std.proofs.Math.Seq.{take-append-add}
use Rattle.lg_io.specs.Wrote.{AppendsPrefix, joined, row}

-- all of xs was appended, and then a part of ys
pub AppendsPrefix-after : (a b c : Option (List ℕ)) (xs ys zs all : List ℕ) → all ≡ xs ++ (ys ++ zs) → Appends a b xs → AppendsPrefix b c ys → AppendsPrefix a c all
AppendsPrefix-after a b c xs ys zs all e h p =
    let part : take (length xs + p.0) all ≡ xs ++ take p.0 ys = rw (e, take-append-add xs (ys ++ zs) p.0, take-append-le p.0 ys zs (omega (arith, p.1))) refl in
    (length xs + p.0, omega (arith, ap length e, length-append xs (ys ++ zs), length-append ys zs, p.1), subst (Appends a c) (sym part) (Appends-trans a b c xs (take p.0 ys) h p.2))

pub joined-append : (ps qs : List (Bor (List ℕ))) → joined (ps ++ qs) ≡ joined ps ++ joined qs
joined-append [] qs = refl
joined-append (p ∷ ps) qs = ap (λ x. p.now ++ x) (joined-append ps qs) ∙ sym (append_assoc p.now (joined ps) (joined qs))

-- the pieces before a place, the one there, and those after it
pub joined-split : (ps : List (Bor (List ℕ))) (i : ℕ) (d : Bor (List ℕ)) → i < length ps → joined ps ≡ joined (take i ps) ++ ((get_or ps i d).now ++ joined (drop (suc i) ps))
joined-split ps i d lt = ap joined (sym (take-append-drop i ps)) ∙ joined-append (take i ps) (drop i ps) ∙ ap (λ x. joined (take i ps) ++ joined x) (drop-cons ps i d lt)

-- one piece more
pub joined-more : (ps : List (Bor (List ℕ))) (i : ℕ) (d : Bor (List ℕ)) → i < length ps → joined (take (i + 1) ps) ≡ joined (take i ps) ++ (get_or ps i d).now
joined-more ps i d lt = ap joined (take_more ps i d lt) ∙ joined-append (take i ps) (get_or ps i d ∷ []) ∙ ap (λ x. joined (take i ps) ++ x) (append-nil (get_or ps i d).now)

-- borrowed pieces joined are the pieces in a row
pub joined-row : (ps : List (Bor (List ℕ))) → joined ps ≡ row (map (λ p. p.now) ps)
joined-row [] = refl
joined-row (p ∷ ps) = ap (λ x. p.now ++ x) (joined-row ps)
