-- At which new nodes labels are bound.
use Rattle.std.proofs.Common.{◌≡◌, ℕ, zero, suc, ◌<◌, ◌≤◌, Bool, true, false, ◌||◌, List, [], ◌∷◌, Option, Some, None, map, refl, sym, ap, ◌∙◌, subst, arith, ⊎_elim}
use Rattle.std.specs.Prelude.{◌==◌, if◌then◌else◌, slice_get}
use Rattle.std.specs.List.{list_any}
use Rattle.std.specs.Option.{option_flatten}
use Rattle.std.proofs.lemmas.Bool.{cases_lt, cases_eq, eq-eqb, eqb-true, or_right, ne_eqb}
use Rattle.lg_op.specs.declared.operand.Label.{Label}
use Rattle.lg_node.specs.declared.place.Place.{Place}
use Rattle.lg_node.specs.declared.place.Place.TheVariants as place
use Rattle.lg_node.specs.Labels.{place_of, is_at, is_labelled}
use Rattle.lg_opt.specs.Remaining.{new_number, moved_place, labelled_from}
use Rattle.lg_opt.proofs.RemainingLemmas.{number-stays, number-goes, number-le, number-lt}

-- one label
abbrev at-from : (ℕ → Bool) → Option Place → ℕ → Bool
at-from stays p zero = is_at 0 p
at-from stays p (suc i) = is_at (suc i) p || (if stays i then false else at-from stays p i)

-- a label is bound at the node that is its place
pub labelled-bound : (places : List (Option Place)) (x k : ℕ) → slice_get places x ≡ Some (Some (place.Node k)) → is_labelled places k ≡ true
labelled-bound [] x k e = cc
labelled-bound (q ∷ qs) zero k e = let same : q ≡ Some (place.Node k) = cc in ap (λ o. is_at k o || list_any (is_at k) qs) same ∙ ap (λ b. b || list_any (is_at k) qs) (eq-eqb k k refl)
labelled-bound (q ∷ qs) (suc x) k e = ap (λ b. is_at k q || b) (labelled-bound qs x k e) ∙ or_right (is_at k q) true refl

pub labelled-at : (places : List (Option Place)) (x : Label) (k : ℕ) → place_of places x ≡ Some (place.Node k) → is_labelled places k ≡ true
labelled-at places x k e = labelled-bound places x.0 k (bound (slice_get places x.0) e)
  where
    bound : (o : Option (Option Place)) → option_flatten o ≡ Some (place.Node k) → o ≡ Some (Some (place.Node k))
    bound None e = cc
    bound (Some q) e = ap (λ (r : Option Place). Some r) e

-- and a node at which one is bound has one
pub label-there : (places : List (Option Place)) (k : ℕ) → is_labelled places k ≡ true → (x : ℕ) × (slice_get places x ≡ Some (Some (place.Node k)))
label-there [] k e = cc
label-there (q ∷ qs) k e = by (is_at k q) refl e (label-there qs k)
  where
    is : (o : Option Place) → is_at k o ≡ true → o ≡ Some (place.Node k)
    is None e = cc
    is (Some (place.Image j)) e = cc
    is (Some (place.Node j)) e = ap (λ i. Some (place.Node i)) (eqb-true j k e)

    by : (b : Bool) → is_at k q ≡ b → (b || list_any (is_at k) qs) ≡ true → (list_any (is_at k) qs ≡ true → (x : ℕ) × (slice_get qs x ≡ Some (Some (place.Node k)))) → (x : ℕ) × (slice_get (q ∷ qs) x ≡ Some (Some (place.Node k)))
    by true e h again = (0, ap Some (is q e))
    by false e h again = let f = again h in (suc f.0, f.1)

module _ (stays : ℕ → Bool) where
  abbrev nu : ℕ → ℕ
  nu = new_number stays

  -- up to a node, the labels that are moved to its new number are those of it and of the dropped ones before it
  below : (k i : ℕ) → k ≤ i → (nu k == nu i) ≡ at-from stays (Some (place.Node k)) i
  below k zero le = let z : k ≡ 0 = omega arith in subst (λ j. (nu j == nu 0) ≡ (j == 0)) (sym z) (eq-eqb (nu 0) (nu 0) refl ∙ sym (eq-eqb 0 0 refl))
  below k (suc i) le = ⊎_elim same (λ ne. by (stays i) refl ne (λ z. below k i z)) (cases_eq k (suc i))
    where
      same : k ≡ suc i → (nu k == nu (suc i)) ≡ at-from stays (Some (place.Node k)) (suc i)
      same e =
          eq-eqb (nu k) (nu (suc i)) (ap nu e)
          ∙ sym (ap (λ b. b || (if stays i then false else at-from stays (Some (place.Node k)) i)) (eq-eqb k (suc i) e))

      by : (b : Bool) → stays i ≡ b → (k ≡ suc i → ⊥) → (k ≤ i → (nu k == nu i) ≡ at-from stays (Some (place.Node k)) i) → (nu k == nu (suc i)) ≡ at-from stays (Some (place.Node k)) (suc i)
      by true s ne again =
          let up = number-stays stays i s in
          let low = number-le stays k i (omega arith) in
          ne_eqb (nu k) (nu (suc i)) (λ e. omega arith)
          ∙ sym (ap (λ b. b || (if stays i then false else at-from stays (Some (place.Node k)) i)) (ne_eqb k (suc i) ne) ∙ ap (λ b. if b then false else at-from stays (Some (place.Node k)) i) s)
      by false s ne again =
          ap (λ j. nu k == j) (number-goes stays i s) ∙ again (omega arith)
          ∙ sym (ap (λ b. b || (if stays i then false else at-from stays (Some (place.Node k)) i)) (ne_eqb k (suc i) ne) ∙ ap (λ b. if b then false else at-from stays (Some (place.Node k)) i) s)

  none-above : (k i : ℕ) → i < k → at-from stays (Some (place.Node k)) i ≡ false
  none-above k zero lt = ne_eqb k 0 (λ e. omega arith)
  none-above k (suc i) lt = ap (λ b. b || (if stays i then false else at-from stays (Some (place.Node k)) i)) (ne_eqb k (suc i) (λ e. omega arith)) ∙ by (stays i) (none-above k i (omega arith))
    where
      by : (b : Bool) → at-from stays (Some (place.Node k)) i ≡ false → (if b then false else at-from stays (Some (place.Node k)) i) ≡ false
      by true h = refl
      by false h = h

  nowhere : (p : Option Place) → ((i : ℕ) → is_at i p ≡ false) → (i : ℕ) → at-from stays p i ≡ false
  nowhere p h zero = h 0
  nowhere p h (suc i) = ap (λ b. b || (if stays i then false else at-from stays p i)) (h (suc i)) ∙ by (stays i) (nowhere p h i)
    where
      by : (b : Bool) → at-from stays p i ≡ false → (if b then false else at-from stays p i) ≡ false
      by true e = refl
      by false e = e

  one-moved : (p : Option Place) (i : ℕ) → stays i ≡ true → is_at (nu i) (moved_place nu p) ≡ at-from stays p i
  one-moved None i s = sym (nowhere None (λ j. refl) i)
  one-moved (Some (place.Image k)) i s = sym (nowhere (Some (place.Image k)) (λ j. refl) i)
  one-moved (Some (place.Node k)) i s = ⊎_elim
      (λ lt. let up = number-lt stays i k lt s in ne_eqb (nu k) (nu i) (λ e. omega arith) ∙ sym (none-above k i lt))
      (λ le. below k i le)
      (cases_lt i k)

  -- all labels
  shuffle : (a b c d e : Bool) → ((a || b) || (if c then false else d || e)) ≡ ((a || (if c then false else d)) || (b || (if c then false else e)))
  shuffle true b c d e = refl
  shuffle false true c true e = by c
    where
      by : (c : Bool) → true ≡ ((if c then false else true) || true)
      by true = refl
      by false = refl
  shuffle false true c false e = by c
    where
      by : (c : Bool) → true ≡ ((if c then false else false) || true)
      by true = refl
      by false = refl
  shuffle false false true d e = refl
  shuffle false false false d e = refl

  split : (p : Option Place) (ps : List (Option Place)) (i : ℕ) → labelled_from (p ∷ ps) stays i ≡ (at-from stays p i || labelled_from ps stays i)
  split p ps zero = refl
  split p ps (suc i) = ap (λ b. is_labelled (p ∷ ps) (suc i) || (if stays i then false else b)) (split p ps i) ∙ shuffle (is_at (suc i) p) (is_labelled ps (suc i)) (stays i) (at-from stays p i) (labelled_from ps stays i)

  none : (i : ℕ) → labelled_from [] stays i ≡ false
  none zero = refl
  none (suc i) = by (stays i) (none i)
    where
      by : (b : Bool) → labelled_from [] stays i ≡ false → (false || (if b then false else labelled_from [] stays i)) ≡ false
      by true e = refl
      by false e = e

  pub labelled-moved : (places : List (Option Place)) (i : ℕ) → stays i ≡ true → is_labelled (map (moved_place (new_number stays)) places) (new_number stays i) ≡ labelled_from places stays i
  labelled-moved [] i s = sym (none i)
  labelled-moved (p ∷ ps) i s = ap (λ b. b || is_labelled (map (moved_place nu) ps) (nu i)) (one-moved p i s) ∙ ap (λ b. at-from stays p i || b) (labelled-moved ps i s) ∙ sym (split p ps i)
