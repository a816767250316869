-- Where all nodes stay as they are, the rewritten nodes are the old ones.
use Rattle.std.proofs.Common.{◌≡◌, ℕ, zero, suc, ◌<◌, ◌≤◌, Bool, true, false, List, [], ◌∷◌, ◌++◌, Option, Some, None, length, map, take, refl, sym, ap, ◌∙◌, arith, add-one, ⊎_elim}
use Rattle.std.specs.Prelude.{slice_get, is_none}
use Rattle.std.specs.List.{All, list_all}
use Rattle.std.specs.Option.{option_map}
use Rattle.std.proofs.Math.Seq.{take-length}
use Rattle.std.proofs.lemmas.List.Elements.{All-head, All-tail}
use Rattle.std.proofs.lemmas.Option.{slice_get_cases}
use Rattle.lg_node.proofs.WalkLemmas.{take_on}
use Rattle.lg_node.specs.declared.place.Place.{Place}
use Rattle.lg_node.specs.declared.place.Place.TheVariants as place
use Rattle.lg_node.specs.Nodes.{LabelledNodes, MayStand}
use Rattle.lg_op.specs.declared.node.Node.{Node}
use Rattle.lg_op.specs.declared.operand.Label.{Label}
use Rattle.lg_opt.specs.Remaining.{new_number, remaining, moved_place, retargeted, rewritten}
use Rattle.lg_opt.specs.Rewritings.{marked, target_in}
use Rattle.lg_opt.proofs.RebuildLemmas.{from-parts, remaining-none}
use Rattle.lg_opt.proofs.RemainingLemmas.{number-all, remaining-stays}

all-marked : (xs : List Bool) → list_all (λ s. s) xs ≡ true → (i : ℕ) → i < length xs → marked xs i ≡ true
all-marked [] e i lt = absurd (omega (arith, lt))
all-marked (true ∷ xs) e zero lt = refl
all-marked (true ∷ xs) e (suc i) lt = all-marked xs e i (omega (arith, lt))
all-marked (false ∷ xs) e i lt = cc

none-given : (xs : List (Option Label)) → list_all is_none xs ≡ true → (i : ℕ) → target_in xs i ≡ None
none-given [] e zero = refl
none-given [] e (suc i) = refl
none-given (None ∷ xs) e zero = refl
none-given (None ∷ xs) e (suc i) = none-given xs e i
none-given (Some y ∷ xs) e i = cc

module _ (l : LabelledNodes) (stays : ℕ → Bool) (targets : ℕ → Option Label) (all : (i : ℕ) → i < length l.nodes → stays i ≡ true) (none : (i : ℕ) → targets i ≡ None) where
  node-at : ℕ → Option Node
  node-at i = option_map (retargeted (targets i)) (slice_get l.nodes i)

  nodes-same : (k : ℕ) → k ≤ length l.nodes → remaining stays (λ i. option_map (retargeted (targets i)) (slice_get l.nodes i)) k ≡ take k l.nodes
  nodes-same zero le = remaining-none stays (λ i. option_map (retargeted (targets i)) (slice_get l.nodes i))
  nodes-same (suc k) le = ⊎_elim
      (λ t. let here : slice_get l.nodes k ≡ Some t.0 = t.2 in
      remaining-stays stays (λ i. option_map (retargeted (targets i)) (slice_get l.nodes i)) k t.0 (all k (omega (arith, le))) (ap (λ o. option_map (retargeted o) (slice_get l.nodes k)) (none k) ∙ ap (option_map (retargeted None)) here)
      ∙ ap (λ xs. xs ++ t.0 ∷ []) (nodes-same k (omega (arith, le)))
      ∙ sym (ap (λ j. take j l.nodes) (sym (add-one k)) ∙ take_on l.nodes k t.0 here))
      (λ t. let past = t.0 in absurd (omega (arith, past, le)))
      (slice_get_cases l.nodes k).1

  places-same : (ps : List (Option Place)) → All (MayStand (length l.nodes)) ps → map (moved_place (new_number stays)) ps ≡ ps
  places-same [] h = refl
  places-same (p ∷ ps) h =
      ap (λ x. x ∷ map (moved_place (new_number stays)) ps) (one p (All-head (MayStand (length l.nodes)) p ps h))
      ∙ ap (λ xs. p ∷ xs) (places-same ps (All-tail (MayStand (length l.nodes)) p ps h))
    where
      one : (p : Option Place) → MayStand (length l.nodes) p → moved_place (new_number stays) p ≡ p
      one None s = refl
      one (Some (place.Image k)) s = refl
      one (Some (place.Node k)) s = ap (λ j. Some (place.Node j)) (number-all stays k (λ i lt. all i (omega (arith, lt, s))))

  pub whole-same : All (MayStand (length l.nodes)) l.places → l ≡ rewritten l stays targets
  whole-same placed =
      from-parts l (rewritten l stays targets).nodes l.words (rewritten l stays targets).places
      (sym (nodes-same (length l.nodes) (omega arith) ∙ take-length l.nodes)) refl (sym (places-same l.places placed))

pub whole : (l : LabelledNodes) (stays : List Bool) (targets : List (Option Label)) → length stays ≡ length l.nodes → All (MayStand (length l.nodes)) l.places
    → list_all (λ s. s) stays ≡ true → list_all is_none targets ≡ true → l ≡ rewritten l (marked stays) (target_in targets)
whole l stays targets count placed all none = whole-same l (marked stays) (target_in targets) (λ i lt. all-marked stays all i (omega (arith, lt, count))) (none-given targets none) placed
