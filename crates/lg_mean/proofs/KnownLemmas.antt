-- The labels of an accepted text's nodes are bound, so that they have an address and a place.
use Rattle.std.proofs.Common.{◌≡◌, ℕ, zero, suc, ◌<◌, Bool, true, false, List, [], ◌∷◌, Option, Some, None, refl, sym, length, subst, ⊎_elim}
use Rattle.std.specs.Prelude.{◌||◌, slice_get, slice_index_or, is_none}
use Rattle.std.specs.List.{list_any}
use Rattle.std.specs.Option.{option_flatten}
use Rattle.std.proofs.lemmas.Option.{slice_get_cases}
use Rattle.std.proofs.lemmas.Bool.{true≢false}
use Rattle.lg_op.specs.declared.operand.Operand.{Operand}
use Rattle.lg_op.specs.declared.operand.Operand.TheVariants as operand
use Rattle.lg_op.specs.declared.node.Node.{Node}
use Rattle.lg_node.specs.declared.place.Place.{Place}
use Rattle.lg_node.specs.Nodes.{LabelledNodes}
use Rattle.lg_node.specs.Checks.{is_missing}
use Rattle.lg_node.specs.ShapeLaws.{IsWellShaped}
use Rattle.lg_mean.specs.Says.{IsKnown, AreKnown}

or_left : (b c : Bool) → b || c ≡ false → b ≡ false
or_left true c h = h
or_left false c h = refl

or_right : (b c : Bool) → b || c ≡ false → c ≡ false
or_right true c h = absurd (true≢false h)
or_right false c h = h

bound : (places : List (Option Place)) (k : ℕ) → is_none (option_flatten (slice_get places k)) ≡ false → k < length places
bound places k h = ⊎_elim (λ x. x.1) (λ x. absurd (past x.1)) (slice_get_cases places k).1
  where
    past : slice_get places k ≡ None → ⊥
    past e = true≢false (subst (λ (o : Option (Option Place)). is_none (option_flatten o) ≡ false) e h)

known_one : (places : List (Option Place)) (x : Operand) → is_missing places x ≡ false → IsKnown (length places) x
known_one places (operand.Label l) h = bound places l.0 h
known_one places other h = tt

known_in : (places : List (Option Place)) (xs : List Operand) (i : ℕ) → list_any (is_missing places) xs ≡ false → IsKnown (length places) (slice_index_or xs i (operand.Number 0))
known_in places [] i h = tt
known_in places (x ∷ xs) zero h = known_one places x (or_left (is_missing places x) (list_any (is_missing places) xs) h)
known_in places (x ∷ xs) (suc i) h = known_in places xs i (or_right (is_missing places x) (list_any (is_missing places) xs) h)

pub known : (l : LabelledNodes) → IsWellShaped l → (i : ℕ) (n : Node) → slice_get l.nodes i ≡ Some n → (labels : ℕ) → labels ≡ length l.places → AreKnown labels n
known l w i n here labels same = λ k lt. subst (λ (m : ℕ). IsKnown m (slice_index_or n.operands k (operand.Number 0))) (sym same) (known_in l.places n.operands k (w.passes i n here).0)
