-- What is known at a node of an accepted text, in a state that fits.
use Rattle.std.proofs.Common.{◌≡◌, ◌≢◌, ℕ, ◌+◌, Bool, true, false, not, List, ◌∷◌, Option, Some, None, refl, sym, ap, ◌∙◌, length, subst}
use Rattle.std.specs.Prelude.{◌&&◌, slice_get, is_none}
use Rattle.std.specs.Option.{option_and_then}
use Rattle.std.proofs.lemmas.Bool.{eq-eqb, or_right, false≢true}
use Rattle.std.proofs.lemmas.List.Elements.{All-get_or}
use Rattle.std.proofs.lemmas.Option.{same_Some, slice_get_within, get_or_from_slice_get}
use Rattle.std.proofs.lemmas.Map.Keys.{any_passes_from_place}
use Rattle.lg_op.specs.declared.op.Op.{Op}
use Rattle.lg_op.specs.declared.op.Op.TheVariants as op
use Rattle.lg_op.specs.declared.op.ControlOp.TheVariants as control
use Rattle.lg_op.specs.declared.op.PlainOp.TheVariants as plain
use Rattle.lg_op.specs.declared.form.Form.{Form}
use Rattle.lg_op.specs.declared.form.Form.TheVariants as form
use Rattle.lg_op.specs.declared.operand.Label.{Label}
use Rattle.lg_op.specs.declared.operand.Operand.{Operand}
use Rattle.lg_op.specs.declared.operand.Operand.TheVariants as operand
use Rattle.lg_op.specs.declared.node.Node.{Node}
use Rattle.lg_op.specs.Forms.{admit}
use Rattle.lg_op.specs.Nodes.{InForm}
use Rattle.lg_node.specs.declared.function.Function.{Function}
use Rattle.lg_node.specs.declared.place.Place.TheVariants as place
use Rattle.lg_node.specs.declared.preparation.Preparation.{Preparation}
use Rattle.lg_node.specs.Nodes.{LabelledNodes}
use Rattle.lg_node.specs.Functions.{home, functions, function_of, frame_of, is_prolog, is_prolog_at, IsFunction}
use Rattle.lg_node.specs.Labels.{is_at, is_labelled}
use Rattle.lg_node.specs.Preparations.{prepared_after, prepared_before}
use Rattle.lg_node.specs.Checks.{is_begun, may_stand_outside, breaks_preparation}
use Rattle.lg_node.specs.Shapes.{TextShape}
use Rattle.lg_node.specs.ShapeLaws.{IsWellShaped, HasFunctions}
use Rattle.lg_node.proofs.FunctionLaws.{node_within, home_within}
use Rattle.lg_node.proofs.WalkLemmas.{prepared_on}
use Rattle.lg_meaning.specs.States.{State}
use Rattle.lg_meaning.specs.Steps.{function_here}
use Rattle.lg_meaning.specs.Fits.{RunsIn, IsTopOf, FitsWell}
use Rattle.lg_meaning.proofs.FunctionFacts.{IsAt, function_at_home}

-- the node at a state's place, in an accepted text whose shape the state fits
pub record AtNode (l : LabelledNodes) (shape : TextShape) (s : State) (n : Node) : Type 0 where
  pub shaped : IsWellShaped l
  pub has : HasFunctions l
  pub same : shape.functions ≡ functions l.nodes
  pub begun : is_begun l.nodes (length l.nodes) ≡ true
  pub here : slice_get l.nodes s.at ≡ Some n
  pub formed : InForm n
  pub well : FitsWell l shape s

-- ---- what is being prepared
-- the operations that change what is being prepared
abbrev pub prepares : Op → Bool
prepares (op.Plain plain.Prepare) = true
prepares (op.Plain plain.Ellipsis) = true
prepares (op.Control control.Pusharg last) = true
prepares (op.Control control.Finish last) = true
prepares o = false

pub still : (c : Option Preparation) (o : Op) → prepares o ≡ false → prepared_after c o ≡ c
still None (op.Plain plain.Prepare) e = cc
still None (op.Control control.Finish last) e = refl
still None o e = refl
still (Some call) (op.Plain plain.Prepare) e = cc
still (Some call) (op.Plain plain.Ellipsis) e = cc
still (Some call) (op.Control control.Pusharg last) e = cc
still (Some call) (op.Control control.Finish last) e = cc
still (Some call) o e = refl

-- ---- operands
-- a label is where a target is to stand
pub target_first : (fs : List Form) (xs : List Operand) → admit (form.Target ∷ fs) xs ≡ true → (x : Label) × (ys : List Operand) × (xs ≡ operand.Label x ∷ ys)
target_first fs (operand.Label x ∷ ys) e = (x, ys, refl)
target_first fs _ e = cc

-- ---- functions
-- a node that may not be outside of every function is in one
pub inside_one : (o : Option ℕ) (may : Bool) → may ≡ false → (is_none o && not may) ≡ false → (p : ℕ) × (o ≡ Some p)
inside_one None may e h = absurd (by may e h)
  where
    by : (b : Bool) → b ≡ false → not b ≡ false → ⊥
    by true e h = cc
    by false e h = cc
inside_one (Some p) may e h = (p, refl)

module _ (l : LabelledNodes) (shape : TextShape) (has : HasFunctions l) (same : shape.functions ≡ functions l.nodes) where
  -- the function that is found at a node has the node
  pub function_found : (k : ℕ) (f : Function) → function_here shape.functions k ≡ Some f → IsFunction l.nodes f
  function_found k f e = by (function_of (functions l.nodes) k) (sym (ap (λ fs. function_here fs k) same) ∙ e)
    where
      by : (o : Option ℕ) → option_and_then (slice_get (functions l.nodes)) o ≡ Some f → IsFunction l.nodes f
      by None e = let no : ◌≡◌ {A = Option Function} None (Some f) = e in cc
      by (Some m) e =
          let lt = slice_get_within (functions l.nodes) m f e in
          let at = get_or_from_slice_get (functions l.nodes) m f f e in
          subst (IsFunction l.nodes) at (All-get_or (IsFunction l.nodes) (functions l.nodes) m f lt has.ranges)

-- the running frame is one of the function of the node, which has begun
pub record Running (l : LabelledNodes) (shape : TextShape) (s : State) (p : ℕ) : Type 0 where
  pub home : home l.nodes s.at ≡ Some p
  pub function : Function
  pub is : IsAt l shape s.at p function
  pub size : s.frame.size ≡ frame_of function
  pub locals : s.frame.locals ≡ function.locals

module _ (l : LabelledNodes) (shape : TextShape) (s : State) (n : Node) (x : AtNode l shape s n) where
  pub at_home : (k p : ℕ) → home l.nodes k ≡ Some p → (f : Function) × IsAt l shape k p f
  at_home k p h = function_at_home l shape x.has x.same k p h

  -- a node that may not be outside is in a function
  pub in_some : may_stand_outside n.op (is_begun l.nodes s.at) ≡ false → (p : ℕ) × (home l.nodes s.at ≡ Some p)
  in_some out = inside_one (home l.nodes s.at) (may_stand_outside n.op (is_begun l.nodes s.at)) out (x.shaped.passes s.at n x.here).1.0

  pub running : (p : ℕ) → home l.nodes s.at ≡ Some p → is_prolog n.op ≡ false → Running l shape s p
  running p h other_op =
      let r : RunsIn shape s p = subst (IsTopOf l shape s) h x.well.fits.top in
      let f = at_home s.at p h in
      let same : r.function ≡ f.0 = same_Some r.function f.0 (sym r.here ∙ f.1.here) in
      let no_prolog : is_prolog_at (slice_get l.nodes s.at) ≡ false = rw x.here other_op in
      let other : s.at ≢ r.function.entry = λ e. false≢true (sym no_prolog ∙ x.shaped.prologs s.at (h ∙ ap Some (sym r.entry ∙ sym e))) in
      let z = r.top.behind other in
      record { home = h; function = f.0; is = f.1; size = z.0 ∙ ap frame_of same; locals = z.1 ∙ ap (λ g. g.locals) same }

  pub prepared_next : prepared_before l.nodes (s.at + 1) ≡ prepared_after (prepared_before l.nodes s.at) n.op
  prepared_next = prepared_on l.nodes s.at n x.here

  pub prepared_by : (o : Op) (c : Option Preparation) → n.op ≡ o → prepared_before l.nodes s.at ≡ c → prepared_before l.nodes (s.at + 1) ≡ prepared_after c o
  prepared_by o c e h = prepared_next ∙ ap (λ (b : Option Preparation). prepared_after b n.op) h ∙ ap (prepared_after c) e

  -- nothing is prepared at a label, and where an operation needs that nothing is
  pub unprepared_label : (y k p : ℕ) → slice_get l.places y ≡ Some (Some (place.Node k)) → home l.nodes k ≡ Some p → prepared_before l.nodes k ≡ None
  unprepared_label y k p bound h =
      let there = node_within l.nodes k (home_within l.nodes k p h) in
      x.shaped.unprepared k there.0 there.1 (or_right (breaks_preparation there.0.op) (is_labelled l.places k) (any_passes_from_place (is_at k) l.places y (Some (place.Node k)) bound (eq-eqb k k refl)))

  pub unprepared_here : breaks_preparation n.op ≡ true → prepared_before l.nodes s.at ≡ None
  unprepared_here breaks = x.shaped.unprepared s.at n x.here (rw breaks refl)
