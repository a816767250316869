-- Where the successors of a node are, and the numbers of functions.
use Rattle.std.proofs.Common.{◌≡◌, ◌⊎◌, inl, inr, ⊎_elim, ℕ, ◌+◌, ◌<◌, ◌≤◌, Bool, true, false, cond, List, [], ◌∷◌, ◌++◌, Option, Some, None, refl, sym, ap, ◌∙◌, length, arith}
use Rattle.std.specs.Prelude.{slice_get, ◌==◌}
use Rattle.std.specs.List.{list_any}
use Rattle.std.specs.Option.{option_flatten}
use Rattle.std.proofs.lemmas.Bool.{and_parts, not-true, eqb-false, cases_lt}
use Rattle.std.proofs.lemmas.List.Elements.{All-weaker}
use Rattle.std.proofs.lemmas.Option.{same_Some}
use Rattle.lg_op.specs.declared.op.Op.{Op}
use Rattle.lg_op.specs.declared.op.Op.TheVariants.{Branch, BranchSum, Control, Plain}
use Rattle.lg_op.specs.declared.op.ControlOp.TheVariants as control
use Rattle.lg_op.specs.declared.op.PlainOp.TheVariants as plain
use Rattle.lg_op.specs.declared.op.LastOperand.TheVariants as last_operand
use Rattle.lg_op.specs.declared.operand.Label.{Label}
use Rattle.lg_op.specs.declared.operand.Operand.{Operand}
use Rattle.lg_op.specs.declared.operand.Operand.TheVariants as operand
use Rattle.lg_op.specs.declared.node.Node.{Node}
use Rattle.lg_node.specs.declared.function.Function.{Function}
use Rattle.lg_node.specs.declared.place.Place.{Place}
use Rattle.lg_node.specs.declared.place.Place.TheVariants as place
use Rattle.lg_node.specs.Nodes.{LabelledNodes}
use Rattle.lg_node.specs.Functions.{is_epilog, is_epilog_at, open_after, open_before, home, functions_before, functions, IsFunction}
use Rattle.lg_node.specs.Labels.{place_of, is_inner, is_inside_some, names_address, is_taken}
use Rattle.lg_node.specs.Checks.{IsAccepted}
use Rattle.lg_node.specs.Shapes.{TextShape, IsShapeOf, IsSuccessor, Way, Next, Jump, Either, Taken, Leave, way_of, target_of, GoesBy, IsTarget, IsNext}
use Rattle.lg_node.specs.Tables.{number_in}
use Rattle.lg_node.specs.ShapeLaws.{has_target, JumpsTo, IsNumbered, HasFunctions, IsBoundInside}
use Rattle.lg_node.proofs.AcceptedLaws.{is_closed, all_small}
use Rattle.lg_node.proofs.FunctionLaws.{IsBefore, all_before, home_from, closes, Begins, home_cases}
use Rattle.lg_node.proofs.NumberLaws.{number_split, function_split, number_is, function_none}
use Rattle.lg_node.proofs.WalkLemmas.{home_here, open_on}
use Rattle.lg_node.proofs.WellShaped.{falls, jumps}

none_behind : (b : Bool) → ◌≡◌ {A = Option ℕ} (cond b None None) None
none_behind true = refl
none_behind false = refl

-- ---- numbers
split_at : {A : Type 0} (xs : List A) (y : A) (ys : List A) → slice_get (xs ++ y ∷ ys) (length xs) ≡ Some y
split_at [] y ys = refl
split_at (x ∷ xs) y ys = split_at xs y ys

numbered : (l : LabelledNodes) → IsAccepted l → (i p : ℕ) → home l.nodes i ≡ Some p → IsNumbered (functions l.nodes) i p
numbered l a i p h =
    let c = closes l.nodes i p (is_closed l a) h in
    record {
      number = length (functions_before l.nodes i);
      function = c.function;
      numbered = number_split l.nodes i p h c;
      listed = ap (λ (fs : List Function). slice_get fs (length (functions_before l.nodes i))) c.split ∙ split_at (functions_before l.nodes i) c.function c.rest;
      found = function_split l.nodes i p h c;
      entry = c.entry;
      from = (let from : p ≤ i = home_from l.nodes i p h in omega (arith, c.entry));
      to = c.last;
    }

pub has_functions : (l : LabelledNodes) → IsAccepted l → HasFunctions l
has_functions l a = record {
  ranges = All-weaker (IsBefore l.nodes (length l.nodes)) (IsFunction l.nodes) (λ f b. b.is) (functions l.nodes) (all_before l.nodes (length l.nodes) (omega arith));
  small = all_small l a;
  numbers = numbered l a;
  outside = λ i out. (number_is l.nodes (is_closed l a) i ∙ ap (number_in (length (functions_before l.nodes i))) out, function_none l.nodes i out);
}

-- ---- successors
next_way : (op : Op) → way_of op ≡ Next → is_epilog op ≡ false
next_way (Plain plain.Epilog) e = cc
next_way op e = refl

either_way : (op : Op) → way_of op ≡ Either → (is_epilog op ≡ false) × (has_target op ≡ true)
either_way (Branch condition last) e = (refl, refl)
either_way (BranchSum sum last) e = (refl, refl)
either_way (Control control.Jmp last_operand.Immediate) e = absurd (cc)
either_way (Control control.Jmp last_operand.Register) e = absurd (cc)
either_way (Control control.Ret last) e = absurd (cc)
either_way (Plain plain.Ret) e = absurd (cc)
either_way (Plain plain.Epilog) e = absurd (cc)
either_way op e = absurd (cc)

jump_way : (op : Op) → way_of op ≡ Jump → has_target op ≡ true
jump_way (Control control.Jmp last_operand.Immediate) e = refl
jump_way (Control control.Jmp last_operand.Register) e = cc
jump_way (Control control.Ret last) e = cc
jump_way (Plain plain.Ret) e = cc
jump_way (Plain plain.Epilog) e = cc
jump_way op e = cc

-- the label of a target
target_label : (places : List (Option Place)) (operands : List Operand) (o : Place) → target_of places operands ≡ Some o → (x : Label) × (xs : List Operand) × (operands ≡ operand.Label x ∷ xs) × (place_of places x ≡ Some o)
target_label places (operand.Label x ∷ xs) o e = (x, xs, refl, e)
target_label places other o e = cc

node_of : (k m : ℕ) (o : Option Place) → o ≡ Some (place.Node m) → o ≡ Some (place.Node k) → m ≡ k
node_of k m o e f = cc

module _ (l : LabelledNodes) (s : TextShape) (is : IsShapeOf l s) where
  stays_by_target : (i k p : ℕ) (n : Node) → slice_get l.nodes i ≡ Some n → home l.nodes i ≡ Some p → has_target n.op ≡ true → IsTarget l n k → (home l.nodes k ≡ Some p) × (p < k)
  stays_by_target i k p n e h t to =
      let x = target_label l.places n.operands (place.Node k) to in
      let j : JumpsTo l (Some p) (place_of l.places x.0) = rw h at (jumps l is.accepted i n x.0 x.1 e t x.2) in
      let same : j.node ≡ k = node_of k j.node (place_of l.places x.0) j.place x.3 in
      (ap (home l.nodes) (sym same) ∙ j.inside, rw same at j.behind)

  stays_by_next : (i k p : ℕ) (n : Node) → slice_get l.nodes i ≡ Some n → home l.nodes i ≡ Some p → is_epilog n.op ≡ false → IsNext l i k → (home l.nodes k ≡ Some p) × (p < k)
  stays_by_next i k p n e h goes next =
      let f = falls l is.accepted i p h (ap is_epilog_at e ∙ goes) in
      (ap (home l.nodes) next.0 ∙ f.0, (let b : p < i + 1 = f.1 in let k_is : k ≡ i + 1 = next.0 in omega arith))

  stays : (i k p : ℕ) (n : Node) (w : Way) → slice_get l.nodes i ≡ Some n → way_of n.op ≡ w → home l.nodes i ≡ Some p → GoesBy l s i n w k → (home l.nodes k ≡ Some p) × (p < k)
  stays i k p n Next e w h g = stays_by_next i k p n e h (next_way n.op w) g
  stays i k p n Jump e w h g = stays_by_target i k p n e h (jump_way n.op w) g
  stays i k p n Either e w h g = let ways = either_way n.op w in ⊎_elim (stays_by_target i k p n e h ways.1) (stays_by_next i k p n e h ways.0) g
  stays i k p n Taken e w h g =
      let same : g.function ≡ p = same_Some g.function p (sym g.here ∙ h) in
      (g.there ∙ ap (λ (q : ℕ). Some q) same, rw same at g.behind)
  stays i k p n Leave e w h g = absurd g

  pub successors_stay : (i k p : ℕ) → home l.nodes i ≡ Some p → IsSuccessor l s i k → (home l.nodes k ≡ Some p) × (p < k)
  successors_stay i k p h g = stays i k p g.node (way_of g.node.op) g.here refl h g.goes

  enters_by_target : (i k : ℕ) (n : Node) → slice_get l.nodes i ≡ Some n → home l.nodes i ≡ None → has_target n.op ≡ true → IsTarget l n k → (home l.nodes k ≡ None) ⊎ (home l.nodes k ≡ Some k)
  enters_by_target i k n e h t to =
      let x = target_label l.places n.operands (place.Node k) to in
      let j : JumpsTo l None (place_of l.places x.0) = rw h at (jumps l is.accepted i n x.0 x.1 e t x.2) in
      let same : j.node ≡ k = node_of k j.node (place_of l.places x.0) j.place x.3 in
      inr (ap (home l.nodes) (sym same) ∙ j.entry ∙ ap (λ (q : ℕ). Some q) same)

  -- after a node outside of every function none is open
  enters_by_next : (i k : ℕ) (n : Node) → slice_get l.nodes i ≡ Some n → home l.nodes i ≡ None → IsNext l i k → (home l.nodes k ≡ None) ⊎ (home l.nodes k ≡ Some k)
  enters_by_next i k n e h next = by (home l.nodes k) refl
    where
      closed : open_before l.nodes k ≡ None
      closed = ap (open_before l.nodes) next.0 ∙ open_on l.nodes i n e ∙ ap (λ (o : Option ℕ). open_after o n.op) (sym (home_here l.nodes i n e) ∙ h) ∙ none_behind (is_epilog n.op)

      by : (o : Option ℕ) → home l.nodes k ≡ o → (home l.nodes k ≡ None) ⊎ (home l.nodes k ≡ Some k)
      by None eo = inl eo
      by (Some p) eo = ⊎_elim (λ (o : open_before l.nodes k ≡ Some p). let no : ◌≡◌ {A = Option ℕ} None (Some p) = sym closed ∙ o in cc) (λ (b : Begins l.nodes k p). inr (eo ∙ ap (λ (q : ℕ). Some q) b.here)) (home_cases l.nodes k p eo)

  enters : (i k : ℕ) (n : Node) (w : Way) → slice_get l.nodes i ≡ Some n → way_of n.op ≡ w → home l.nodes i ≡ None → GoesBy l s i n w k → (home l.nodes k ≡ None) ⊎ (home l.nodes k ≡ Some k)
  enters i k n Next e w h g = enters_by_next i k n e h g
  enters i k n Jump e w h g = enters_by_target i k n e h (jump_way n.op w) g
  enters i k n Either e w h g = let ways = either_way n.op w in ⊎_elim (enters_by_target i k n e h ways.1) (enters_by_next i k n e h) g
  enters i k n Taken e w h g = let no : ◌≡◌ {A = Option ℕ} None (Some g.function) = sym h ∙ g.here in cc
  enters i k n Leave e w h g = absurd g

  pub successors_enter : (i k : ℕ) → home l.nodes i ≡ None → IsSuccessor l s i k → (home l.nodes k ≡ None) ⊎ (home l.nodes k ≡ Some k)
  successors_enter i k h g = enters i k g.node (way_of g.node.op) g.here refl h g.goes

-- ---- taken labels
inside_some : (l : LabelledNodes) (label : ℕ) (o : Option (Option Place)) → slice_get l.places label ≡ o → is_inside_some l.nodes (option_flatten o) ≡ true → IsBoundInside l label
inside_some l label None e t = cc
inside_some l label (Some None) e t = cc
inside_some l label (Some (Some (place.Image k))) e t = cc
inside_some l label (Some (Some (place.Node k))) e t = by (home l.nodes k) refl t
  where
    by : (h : Option ℕ) → home l.nodes k ≡ h → is_inner h k ≡ true → IsBoundInside l label
    by None h t = cc
    by (Some p) h t =
        let other : k ≡ p → ⊥ = eqb-false k p (not-true (k == p) t) in
        let from : p ≤ k = home_from l.nodes k p h in
        record { node = k; function = p; place = e; inside = h; behind = ⊎_elim (λ (b : p < k). b) (λ (b : k ≤ p). absurd (other (omega arith))) (cases_lt p k) }

pub taken_inside : (l : LabelledNodes) (label : ℕ) → is_taken l label ≡ true → IsBoundInside l label
taken_inside l label t = inside_some l label (slice_get l.places label) refl (and_parts (list_any (names_address label) l.nodes) (is_inside_some l.nodes (option_flatten (slice_get l.places label))) t).1
