-- Each step keeps the fit.
use Rattle.std.proofs.Common.{◌≡◌, ℕ, Bool, true, false, List, [], ◌∷◌, Option, Some, None, refl, ap, ◌∙◌, length, subst}
use Rattle.std.specs.Prelude.{slice_get}
use Rattle.std.specs.List.{list_any}
use Rattle.std.proofs.Math.Seq.{take-length}
use Rattle.lg_op.specs.declared.form.Form.TheVariants as form
use Rattle.lg_op.specs.declared.node.Node.{Node}
use Rattle.lg_op.specs.declared.op.BranchSumOp.{BranchSumOp}
use Rattle.lg_op.specs.declared.op.Condition.{Condition}
use Rattle.lg_op.specs.declared.op.LastOperand.{LastOperand}
use Rattle.lg_op.specs.declared.op.LastOperand.TheVariants as last_operand
use Rattle.lg_op.specs.declared.op.Op.{Op}
use Rattle.lg_op.specs.declared.op.Op.TheVariants as op
use Rattle.lg_op.specs.declared.op.ControlOp.TheVariants as control
use Rattle.lg_op.specs.declared.op.PlainOp.TheVariants as plain
use Rattle.lg_op.specs.Forms.{admit, forms_of, last_form}
use Rattle.lg_node.specs.Nodes.{LabelledNodes}
use Rattle.lg_node.specs.Functions.{open_before, is_prolog, is_prolog_node, is_epilog}
use Rattle.lg_node.specs.Checks.{is_begun, may_stand_outside, end_refusal_of, IsAccepted}
use Rattle.lg_node.specs.Shapes.{TextShape, IsShapeOf}
use Rattle.lg_node.specs.ShapeLaws.{IsWellShaped, HasFunctions}
use Rattle.lg_op.specs.Operators.{holds, branch_sum_value, branch_sum_goes}
use Rattle.lg_meaning.specs.States.{State, value}
use Rattle.lg_meaning.specs.Steps.{Outcome, Goes, operand_at, on, to, with_reg, quiet, branch_step, branch_sum_step, node_of_label, load_step, unary_step, movi_step, wide_step, retval_step, getarg_step, va_start_step, va_arg_step, va_end_step, node_step}
use Rattle.lg_meaning.specs.Texts.{text, step_at, step}
use Rattle.lg_meaning.specs.Fits.{FitsWell}
use Rattle.lg_meaning.specs.Laws.{IsFormedAt}
use Rattle.lg_meaning.proofs.CallLemmas.{prolog_fits, leave_fits, ret_fits, call_fits}
use Rattle.lg_meaning.proofs.FallLemmas.{Falls, move, binary_node_falls, wide_falls, unary_falls, movi_falls, load_falls, retval_falls, getarg_falls, va_start_falls, va_arg_falls, va_end_falls, passing_falls}
use Rattle.lg_meaning.proofs.NodeFacts.{AtNode, prepares}
use Rattle.lg_meaning.proofs.Outcomes.{OnGoes, need_on, on_weaker, on_result}
use Rattle.lg_meaning.proofs.PushLemmas.{prepare_fits, ellipsis_fits, push_fits, store_fits}
use Rattle.lg_meaning.proofs.StayLemmas.{falls_fit, passes_fit, jump_fits, branch_fits, register_jump_fits}

module _ (l : LabelledNodes) (shape : TextShape) (s : State) (n : Node) (x : AtNode l shape s n) (A : List ℕ) where
  forms_at : (o : Op) → n.op ≡ o → admit (forms_of o) n.operands ≡ true
  forms_at o e = subst (λ (p : Op). admit (forms_of p) n.operands ≡ true) e x.formed.forms

  -- an operation that changes registers alone and is in functions alone
  register_fits : (o : Outcome) → may_stand_outside n.op (is_begun l.nodes s.at) ≡ false → is_prolog n.op ≡ false → is_epilog n.op ≡ false → prepares n.op ≡ false → OnGoes (Falls s) o → OnGoes (FitsWell l shape) o
  register_fits o out pro epi silent h = on_weaker (Falls s) (FitsWell l shape) (falls_fit l shape s n x out pro epi silent) o h

  branch_kept : (c : Condition) (last : LastOperand) → n.op ≡ op.Branch c last → OnGoes (FitsWell l shape) (branch_step (text l shape A) n c s)
  branch_kept c last e =
      need_on (FitsWell l shape) (value A s (operand_at n 1)) _ (λ a h. need_on (FitsWell l shape) (value A s (operand_at n 2)) _ (λ b g.
      branch_fits l shape s n x (form.Read ∷ last_form last ∷ []) (forms_at (op.Branch c last) e) (rw e refl) (rw e refl) (rw e refl) (rw e refl) (rw e refl) (rw e refl) (holds c a b) s.regs))

  sum_kept : (o : BranchSumOp) (last : LastOperand) → n.op ≡ op.BranchSum o last → OnGoes (FitsWell l shape) (branch_sum_step (text l shape A) n o s)
  sum_kept o last e =
      need_on (FitsWell l shape) (value A s (operand_at n 1)) _ (λ a h. need_on (FitsWell l shape) (value A s (operand_at n 2)) _ (λ b g.
      branch_fits l shape s n x (form.Update ∷ last_form last ∷ []) (forms_at (op.BranchSum o last) e) (rw e refl) (rw e refl) (rw e refl) (rw e refl) (rw e refl) (rw e refl) (branch_sum_goes o a b) (with_reg s (operand_at n 1) (branch_sum_value o a b)).regs))

  kept_of : (o : Op) → n.op ≡ o → OnGoes (FitsWell l shape) (node_step (text l shape A) n o s)
  kept_of (op.Binary a b) e = register_fits (node_step (text l shape A) n (op.Binary a b) s) (rw e refl) (rw e refl) (rw e refl) (rw e refl) (binary_node_falls s (text l shape A) n a b)
  kept_of (op.Wide a b) e = register_fits (wide_step A n a s) (rw e refl) (rw e refl) (rw e refl) (rw e refl) (wide_falls s A n a)
  kept_of (op.Branch c last) e = branch_kept c last e
  kept_of (op.BranchSum o last) e = sum_kept o last e
  kept_of (op.Control control.Jmp last_operand.Register) e = register_jump_fits l shape s n x A (rw e refl) (rw e refl) (rw e refl)
  kept_of (op.Control control.Jmp last_operand.Immediate) e =
      jump_fits l shape s n x [] (forms_at (op.Control control.Jmp last_operand.Immediate) e) (rw e refl) (rw e refl) (rw e refl) (to s (node_of_label l.places (operand_at n 0))) (move s _ _ _ _)
  kept_of (op.Control control.Call last) e = call_fits l shape s n x [] (rw e refl) (rw e refl) (rw e refl) (rw e refl) (rw e refl) A last [] (λ i. (forms_at (op.Control control.Call last_operand.Immediate) (e ∙ ap (op.Control control.Call) i), rw (e, i) refl))
  kept_of (op.Control control.Finish last) e = call_fits l shape s n x s.pushed (rw e refl) (rw e refl) (rw e refl) (rw e refl) (rw e x.well.fits.pushed) A last [] (λ i. (forms_at (op.Control control.Finish last_operand.Immediate) (e ∙ ap (op.Control control.Finish) i), rw (e, i) refl))
  kept_of (op.Control control.Pusharg last) e = push_fits l shape s n x A last e
  kept_of (op.Control control.Ret last) e = ret_fits l shape s n x A
  kept_of (op.Unary a) e = register_fits (unary_step A n a s) (rw e refl) (rw e refl) (rw e refl) (rw e refl) (unary_falls s A n a)
  kept_of (op.Plain plain.Movi) e = register_fits (movi_step A n s) (rw e refl) (rw e refl) (rw e refl) (rw e refl) (movi_falls s A n)
  kept_of (op.Plain plain.Prepare) e = prepare_fits l shape s n x e
  kept_of (op.Plain plain.Ellipsis) e = ellipsis_fits l shape s n x e
  kept_of (op.Plain plain.Prolog) e = prolog_fits l shape s n x A e
  kept_of (op.Plain plain.Arg) e = register_fits (quiet (on s)) (rw e refl) (rw e refl) (rw e refl) (rw e refl) (passing_falls s)
  kept_of (op.Plain plain.Allocai) e = register_fits (quiet (on s)) (rw e refl) (rw e refl) (rw e refl) (rw e refl) (passing_falls s)
  kept_of (op.Plain plain.Align) e = passes_fit l shape s n x (rw e refl) (rw e refl) (rw e refl) (on s) (passing_falls s)
  kept_of (op.Plain plain.VaStart) e = register_fits (va_start_step A n s) (rw e refl) (rw e refl) (rw e refl) (rw e refl) (va_start_falls s A n)
  kept_of (op.Plain plain.VaArg) e = register_fits (va_arg_step A n s) (rw e refl) (rw e refl) (rw e refl) (rw e refl) (va_arg_falls s A n)
  kept_of (op.Plain plain.VaEnd) e = register_fits (va_end_step A n s) (rw e refl) (rw e refl) (rw e refl) (rw e refl) (va_end_falls s A n)
  kept_of (op.Plain _) e = leave_fits l shape s n x None
  kept_of (op.Load v at) e = register_fits (load_step A n v at s) (rw e refl) (rw e refl) (rw e refl) (rw e refl) (load_falls s A n v at)
  kept_of (op.Store t at) e = store_fits l shape s n x A t at e
  kept_of (op.Retval v) e = register_fits (retval_step n v s) (rw e refl) (rw e refl) (rw e refl) (rw e refl) (retval_falls s n v)
  kept_of (op.Getarg v) e = register_fits (getarg_step n v s) (rw e refl) (rw e refl) (rw e refl) (rw e refl) (getarg_falls s n v)

-- an accepted text has a `prolog`
has_prolog : (l : LabelledNodes) → IsAccepted l → is_begun l.nodes (length l.nodes) ≡ true
has_prolog l a = ap (list_any is_prolog_node) (take-length l.nodes) ∙ by (open_before l.nodes (length l.nodes)) (list_any is_prolog_node l.nodes) a.end
  where
    by : (o : Option ℕ) (b : Bool) → end_refusal_of l.nodes o b ≡ None → b ≡ true
    by (Some p) b e = cc
    by None true e = refl
    by None false e = cc

pub steps_fit : (l : LabelledNodes) (shape : TextShape) (A : List ℕ) (s t : State) (bytes : List ℕ) → IsShapeOf l shape → IsWellShaped l → HasFunctions l → IsFormedAt l s.at → FitsWell l shape s → step l shape A s ≡ Goes t bytes → FitsWell l shape t
steps_fit l shape A s t bytes is w has formed well e = by (slice_get l.nodes s.at) refl e
  where
    by : (o : Option Node) → slice_get l.nodes s.at ≡ o → step_at (text l shape A) o s ≡ Goes t bytes → FitsWell l shape t
    by None here h = cc
    by (Some n) here h =
        let x : AtNode l shape s n = record { shaped = w; has = has; same = is.functions; begun = has_prolog l is.accepted; here = here; formed = formed n here; well = well } in
        on_result (FitsWell l shape) (node_step (text l shape A) n n.op s) t bytes (kept_of l shape s n x A n.op refl) h
