-- The running frame of a state that fits is one of its node's function.
use Rattle.std.proofs.Common.{◌≡◌, ◌≢◌, ℕ, ◌≤◌, true, false, Some, sym, ap, ◌∙◌, subst, arith}
use Rattle.std.specs.Prelude.{slice_get}
use Rattle.std.proofs.lemmas.Option.{same_Some}
use Rattle.std.proofs.lemmas.Bool.{false≢true}
use Rattle.lg_node.specs.Nodes.{LabelledNodes}
use Rattle.lg_node.specs.Functions.{home, is_prolog_at}
use Rattle.lg_node.specs.Shapes.{TextShape, IsShapeOf}
use Rattle.lg_node.specs.ShapeLaws.{IsWellShaped, HasFunctions}
use Rattle.lg_meaning.specs.States.{State}
use Rattle.lg_meaning.specs.Fits.{RunsIn, IsTopOf, Fits, IsRunning, IsBeginning}
use Rattle.lg_meaning.proofs.NodeFacts.{function_found}

module _ (l : LabelledNodes) (shape : TextShape) (s : State) (p : ℕ) (is : IsShapeOf l shape) (w : IsWellShaped l) (has : HasFunctions l) (fits : Fits l shape s) (h : home l.nodes s.at ≡ Some p) where
  r : RunsIn shape s p
  r = subst (IsTopOf l shape s) h fits.top

  pub frame_runs : is_prolog_at (slice_get l.nodes s.at) ≡ false → IsRunning shape.functions s
  frame_runs other_op =
      let other : s.at ≢ r.function.entry = λ e. false≢true (sym other_op ∙ w.prologs s.at (h ∙ ap Some (sym r.entry ∙ sym e))) in
      let range = (function_found l shape has is.functions s.at r.function r.here).only s.at (h ∙ ap Some (sym r.entry)) in
      let z = r.top.behind other in
      record { function = r.function; here = r.here; behind = (let low : r.function.entry ≤ s.at = range.0 in omega arith); size = z.0; locals = z.1 }

  pub frame_begins : is_prolog_at (slice_get l.nodes s.at) ≡ true → IsBeginning shape.functions s
  frame_begins begins =
      let at : p ≡ s.at = same_Some p s.at (sym h ∙ (w.entries s.at begins).0) in
      let z = r.top.before (sym (r.entry ∙ at)) in
      record { function = r.function; here = r.here; entry = r.entry ∙ at; size = z.0; locals = z.1; room = z.2 }
