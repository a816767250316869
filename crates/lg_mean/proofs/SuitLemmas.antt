-- What a node of an accepted text asks of a state that fits its shape.
use Rattle.std.proofs.Common.{◌≡◌, ◌≢◌, ℕ, ◌+◌, ◌<◌, ◌≤◌, Bool, true, false, not, Option, Some, None, refl, sym, ap, ◌∙◌, length, subst, arith}
use Rattle.std.specs.Prelude.{◌&&◌, slice_get, is_none}
use Rattle.std.proofs.lemmas.Bool.{false≢true}
use Rattle.lg_op.specs.declared.node.Node.{Node}
use Rattle.lg_op.specs.declared.op.Op.{Op}
use Rattle.lg_op.specs.declared.op.Op.TheVariants as op
use Rattle.lg_op.specs.declared.op.ControlOp.TheVariants as control
use Rattle.lg_op.specs.declared.op.PlainOp.TheVariants as plain
use Rattle.lg_op.specs.declared.op.LastOperand.{LastOperand}
use Rattle.lg_node.specs.declared.function.Function.{Function}
use Rattle.lg_node.specs.Nodes.{LabelledNodes}
use Rattle.lg_node.specs.Functions.{home, is_prolog, is_prolog_at, frame_of}
use Rattle.lg_node.specs.Preparations.{pushed_of}
use Rattle.lg_node.specs.Checks.{is_begun, may_stand_outside}
use Rattle.lg_node.specs.Shapes.{TextShape}
use Rattle.lg_node.specs.ShapeLaws.{IsWellShaped}
use Rattle.lg_meaning.specs.States.{State}
use Rattle.lg_mean.specs.Says.{HasBegun, CanBegin, Suits}
use Rattle.lg_meaning.specs.Fits.{RunsIn, IsTopOf, Fits}

whole : (f : Function) → 272 + f.locals ≤ frame_of f
whole f = omega arith

-- a node that may not be outside of every function is in one
inside : (o : Option ℕ) (may : Bool) → may ≡ false → is_none o && not may ≡ false → (p : ℕ) × (o ≡ Some p)
inside None may e h = absurd (by may e h)
  where
    by : (b : Bool) → b ≡ false → not b ≡ false → ⊥
    by true e h = cc
    by false e h = cc
inside (Some p) may e h = (p, refl)

module _ (l : LabelledNodes) (shape : TextShape) (w : IsWellShaped l) (s : State) (n : Node) (here : slice_get l.nodes s.at ≡ Some n) (fits : Fits l shape s) where
  -- after the `prolog` of its function
  begun : (may : Bool) → may_stand_outside n.op (is_begun l.nodes s.at) ≡ false → is_prolog n.op ≡ false → HasBegun s
  begun may out other_op = by (inside (home l.nodes s.at) (may_stand_outside n.op (is_begun l.nodes s.at)) out (w.passes s.at n here).1.0)
    where
      no_prolog : is_prolog_at (slice_get l.nodes s.at) ≡ false
      no_prolog = rw here other_op

      by : (p : ℕ) × (home l.nodes s.at ≡ Some p) → HasBegun s
      by x =
          let r : RunsIn shape s x.0 = subst (IsTopOf l shape s) x.1 fits.top in
          let other : s.at ≢ r.function.entry = λ e. false≢true (sym no_prolog ∙ w.prologs s.at (x.1 ∙ ap Some (sym r.entry ∙ sym e))) in
          let size = r.top.behind other in
          omega (arith, size.0, size.1, whole r.function)

  can_begin : is_prolog n.op ≡ true → CanBegin shape.functions s
  can_begin begins =
      let r : RunsIn shape s s.at = subst (IsTopOf l shape s) (w.entries s.at (rw here begins)).0 fits.top in
      let before = r.top.before (sym r.entry) in
      (r.function, r.here, before.1, before.2)

  pushes : (last : LastOperand) → n.op ≡ op.Control control.Pusharg last → length s.pushed < 16
  pushes last e =
      let x = w.pushes s.at n here (rw e refl) in
      let few = x.2 (rw e refl) in
      let count : length s.pushed ≡ x.0.pushed = fits.pushed ∙ ap pushed_of x.1 in
      omega (arith, count, few)

  suits_of : (o : Op) → n.op ≡ o → Suits shape.functions o s (length s.pushed)
  suits_of (op.Control control.Call b) e = begun false (rw e refl) (rw e refl)
  suits_of (op.Control control.Finish b) e = begun false (rw e refl) (rw e refl)
  suits_of (op.Control control.Pusharg b) e = pushes b e
  suits_of (op.Control control.Ret b) e = begun false (rw e refl) (rw e refl)
  suits_of (op.Plain plain.Prolog) e = can_begin (rw e refl)
  suits_of (op.Plain plain.Epilog) e = begun false (rw e refl) (rw e refl)
  suits_of (op.Plain plain.Ret) e = begun false (rw e refl) (rw e refl)
  suits_of other e = tt

  pub suits : Suits shape.functions n.op s (length s.pushed)
  suits = suits_of n.op refl
