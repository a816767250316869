-- The points of a text.
use Rattle.std.proofs.Common.{◌≡◌, ⊎_elim, ℕ, ◌+◌, ◌<◌, ◌≤◌, Bool, true, false, List, [], ◌∷◌, ◌++◌, Option, Some, None, refl, sym, ap, ◌∙◌, subst, length, arith}
use Rattle.std.specs.Prelude.{slice_get, nat_lt, if◌then◌else◌}
use Rattle.std.specs.Option.{option_map}
use Rattle.std.proofs.lemmas.Bool.{cases_lt}
use Rattle.std.proofs.lemmas.Bool.Decides.{nat_tests}
use Rattle.std.proofs.lemmas.Option.{slice_get_within, get_or_from_slice_get, slice_get-get_or, same_Some}
use Rattle.lg_op.specs.declared.node.Node.{Node}
use Rattle.lg_op.specs.declared.op.Op.{Op}
use Rattle.lg_node.specs.declared.function.Function.{Function}
use Rattle.lg_node.specs.declared.place.Place.{Place}
use Rattle.lg_node.specs.declared.place.Place.TheVariants as place
use Rattle.lg_node.specs.Nodes.{LabelledNodes}
use Rattle.lg_node.specs.Functions.{home, function_of}
use Rattle.lg_node.specs.Shapes.{TextShape, IsShapeOf}
use Rattle.lg_node.proofs.SuccessorLaws.{has_functions}
use Rattle.lg_live.specs.Points.{node_within, gate_of, join_of, IsPoint}
use Rattle.lg_live.specs.declared.point.Point.{Point}
use Rattle.lg_live.proofs.SearchLemmas.{get_pushed}
use Rattle.std.proofs.lemmas.List.{get_or_append_left}
use Rattle.std.proofs.Math.ListN.{length-append}

-- ---- functions by their numbers
module _ (l : LabelledNodes) (s : TextShape) (is : IsShapeOf l s) (i : ℕ) where
  home_none : (o : Option ℕ) → home l.nodes i ≡ o → function_of s.functions i ≡ None → home l.nodes i ≡ None
  home_none None h e = h
  home_none (Some p) h e =
      let n = (has_functions l is.accepted).numbers i p h in
      let f : ◌≡◌ {A = Option ℕ} None (Some n.number) = sym e ∙ ap (λ (fs : List Function). function_of fs i) is.functions ∙ n.numbered in
      absurd (cc)

  pub no_home : function_of s.functions i ≡ None → None ≡ home l.nodes i
  no_home e = sym (home_none (home l.nodes i) refl e)

  home_some : (number entry : ℕ) (o : Option ℕ) → home l.nodes i ≡ o → function_of s.functions i ≡ Some number → Some entry ≡ option_map (λ f. f.entry) (slice_get s.functions number) → home l.nodes i ≡ Some entry
  home_some number entry None h e g =
      let out = (has_functions l is.accepted).outside i h in
      let f : ◌≡◌ {A = Option ℕ} None (Some number) = sym out.0 ∙ ap (λ (fs : List Function). function_of fs i) (sym is.functions) ∙ e in
      absurd (cc)
  home_some number entry (Some p) h e g =
      let n = (has_functions l is.accepted).numbers i p h in
      let same : n.number ≡ number = same_Some n.number number (sym n.numbered ∙ ap (λ (fs : List Function). function_of fs i) (sym is.functions) ∙ e) in
      let here : slice_get s.functions number ≡ Some n.function = ap (slice_get s.functions) (sym same) ∙ ap (λ (fs : List Function). slice_get fs n.number) is.functions ∙ n.listed in
      let is_entry : Some entry ≡ Some n.function.entry = g ∙ ap (option_map (λ f. f.entry)) here in
      h ∙ ap Some (sym n.entry) ∙ sym is_entry

  pub some_home : (number entry : ℕ) → function_of s.functions i ≡ Some number → Some entry ≡ option_map (λ f. f.entry) (slice_get s.functions number) → Some entry ≡ home l.nodes i
  some_home number entry e g = sym (home_some number entry (home l.nodes i) refl e g)

-- ---- gates
pub no_gate : (l : LabelledNodes) (o : Option ℕ) → None ≡ gate_of l false o
no_gate l None = refl
no_gate l (Some p) = refl

pub no_join : (l : LabelledNodes) (o : Option ℕ) (i : ℕ) → None ≡ join_of l o i false
no_join l None i = refl
no_join l (Some p) i = refl

-- ---- marks
pub ltb_of_lt : (k n : ℕ) → k < n → nat_lt k n ≡ true
ltb_of_lt k n lt = grind (arith, nat_tests)

pub lt_of_ltb : (k n : ℕ) → nat_lt k n ≡ true → k < n
lt_of_ltb k n e = grind (arith, nat_tests)

within_some : (count j k : ℕ) (b : Bool) → nat_lt j count ≡ b → (if b then Some j else None) ≡ Some k → j ≡ k
within_some count j k true e f = same_Some j k f
within_some count j k false e f = absurd (let g : ◌≡◌ {A = Option ℕ} None (Some k) = f in cc)

pub node_of_within : (count k : ℕ) (o : Option Place) → node_within count o ≡ Some k → o ≡ Some (place.Node k)
node_of_within count k None e = absurd (cc)
node_of_within count k (Some (place.Image j)) e = absurd (cc)
node_of_within count k (Some (place.Node j)) e = ap (λ n. Some (place.Node n)) (within_some count j k (nat_lt j count) refl e)

below_some : (count j k : ℕ) (b : Bool) → nat_lt j count ≡ b → (if b then Some j else None) ≡ Some k → k < count
below_some count j k true e f = let same : j ≡ k = same_Some j k f in let lt = lt_of_ltb j count e in omega (arith, lt, same)
below_some count j k false e f = absurd (let g : ◌≡◌ {A = Option ℕ} None (Some k) = f in cc)

pub below_of_within : (count k : ℕ) (o : Option Place) → node_within count o ≡ Some k → k < count
below_of_within count k None e = absurd (cc)
below_of_within count k (Some (place.Image j)) e = absurd (cc)
below_of_within count k (Some (place.Node j)) e = below_some count j k (nat_lt j count) refl e

pub within_of_node : (count k : ℕ) → k < count → node_within count (Some (place.Node k)) ≡ Some k
within_of_node count k lt = rw (ltb_of_lt k count lt) refl

-- ---- the points of the first nodes
pub record AreFirst (feeding : Op → Bool) (l : LabelledNodes) (s : TextShape) (points : List Point) (count : ℕ) : Type 0 where
  pub many : length points ≡ count
  pub each : (i : ℕ) (n : Node) (p : Point) → slice_get l.nodes i ≡ Some n → slice_get points i ≡ Some p → IsPoint feeding l s i n p

pub first_more : (feeding : Op → Bool) (l : LabelledNodes) (s : TextShape) (points : List Point) (count : ℕ) (m : Node) (q : Point) (more : List Point) → AreFirst feeding l s points count → slice_get l.nodes count ≡ Some m → IsPoint feeding l s count m q → more ≡ points ++ q ∷ [] → AreFirst feeding l s more (count + 1)
first_more feeding l s points count m q more f here is e = rw e record {
  many = omega (arith, length-append points (q ∷ []), f.many);
  each = λ i n p a b.
      ⊎_elim
      (λ (less : i < length points).
      let old : slice_get points i ≡ Some p = slice_get-get_or points i p less ∙ ap Some (sym (get_or_append_left points (q ∷ []) p i less) ∙ get_or_from_slice_get (points ++ q ∷ []) i p p b) in
      f.each i n p a old)
      (λ (more : length points ≤ i).
      let lt : i < length (points ++ q ∷ []) = slice_get_within (points ++ q ∷ []) i p b in
      let this : i ≡ length points = omega (arith, lt, length-append points (q ∷ [])) in
      let at : i ≡ count = this ∙ f.many in
      let node : m ≡ n = same_Some m n (sym here ∙ ap (slice_get l.nodes) (sym at) ∙ a) in
      let point : q ≡ p = same_Some q p (sym (get_pushed points q) ∙ ap (slice_get (points ++ q ∷ [])) (sym this) ∙ b) in
      let P : ℕ → Type 0 = λ k. IsPoint feeding l s k n p in
      let Q : Node → Type 0 = λ x. IsPoint feeding l s count x p in
      let R : Point → Type 0 = λ x. IsPoint feeding l s count m x in
      subst P (sym at) (subst Q node (subst R point is)))
      (cases_lt i (length points));
}
