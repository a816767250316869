-- Where branches, jumps, calls and returns arrive: at the next node, at a label, or after the call that they return to.
use Rattle.std.proofs.Common.{◌≡◌, ◌⊎◌, inl, inr, ℕ, ◌+◌, Bool, true, false, List, [], ◌∷◌, Option, Some, None, length, refl, sym, ap, ◌∙◌, subst}
use Rattle.std.specs.Prelude.{slice_get, slice_index_or}
use Rattle.std.proofs.lemmas.Bool.{eqb-true}
use Rattle.std.proofs.lemmas.Option.{same_Some}
use Rattle.lg_base.specs.declared.host_name.HostName.{HostName}
use Rattle.lg_base.specs.HostNames.{host_by_address}
use Rattle.lg_host.specs.Host.{Host, Gives, Exits, Undefined}
use Rattle.lg_op.specs.Forms.{last_form, admit, forms_of}
use Rattle.lg_op.specs.Nodes.{InForm}
use Rattle.lg_op.specs.declared.form.Form.{Form}
use Rattle.lg_op.specs.declared.form.Form.TheVariants as form
use Rattle.lg_op.specs.declared.node.Node.{Node}
use Rattle.lg_op.specs.declared.op.Op.{Op}
use Rattle.lg_op.specs.declared.op.Op.TheVariants as op
use Rattle.lg_op.specs.declared.op.ControlOp.TheVariants as control
use Rattle.lg_op.specs.declared.op.PlainOp.TheVariants as plain
use Rattle.lg_op.specs.declared.op.LastOperand.TheVariants as last_operand
use Rattle.lg_op.specs.declared.operand.Label.{Label}
use Rattle.lg_op.specs.declared.operand.Operand.{Operand}
use Rattle.lg_op.specs.declared.operand.Operand.TheVariants as operand
use Rattle.lg_op.specs.Operators.{holds, branch_sum_goes, branch_sum_value}
use Rattle.lg_node.specs.declared.function.Function.{Function}
use Rattle.lg_node.specs.Checks.{IsAccepted}
use Rattle.lg_node.specs.Functions.{home, functions}
use Rattle.lg_node.specs.Labels.{place_of, is_labelled}
use Rattle.lg_node.specs.Nodes.{LabelledNodes}
use Rattle.lg_node.specs.ShapeLaws.{has_target, has_callee, JumpsTo, IsWellShaped}
use Rattle.lg_node.specs.Shapes.{TextShape}
use Rattle.lg_node.proofs.WellShaped.{well_shaped}
use Rattle.lg_meaning.specs.States.{Frame, State, value}
use Rattle.lg_meaning.specs.Steps.{Text, need, when, quiet, operand_at, branch, with_reg, node_in, node_of_label, jump_target, is_target, function_here, started, called, enter, leave, back_to, host_end, call_host, call_node, call_operand, begins, is_entry_label, entry_target, call_named, call_word, node_step}
use Rattle.lg_meaning.specs.Texts.{text}
use Rattle.lg_meaning.proofs.NodeFacts.{target_first}
use Rattle.lg_meaning.proofs.Outcomes.{OnGoes, need_on}
use Rattle.lg_meaning.proofs.StayLemmas.{last_landed}
use Rattle.lg_carry.specs.Carries.{leaps}
use Rattle.lg_opt.proofs.FunctionLemmas.{here-home}
use Rattle.lg_opt.proofs.LabelLemmas.{labelled-at, labelled-bound}

-- where a step arrives
abbrev pub Arrives : LabelledNodes → State → State → Type 0
Arrives l s t = (t.at ≡ s.at + 1) ⊎ ((is_labelled l.places t.at ≡ true) ⊎ ((t.at ≡ s.frame.back) × (f : Frame) × (fs : List Frame) × (s.callers ≡ f ∷ fs)))

module _ (l : LabelledNodes) (shape : TextShape) (A : List ℕ) (a : IsAccepted l) (same : shape.functions ≡ functions l.nodes) (s : State) (n : Node) (here : slice_get l.nodes s.at ≡ Some n) (formed : InForm n) where
  abbrev t : Text
  t = text l shape A

  w : IsWellShaped l
  w = well_shaped l a

  -- the target of a branch or jump has its label
  target-labelled : (fs : List Form) → admit (form.Target ∷ fs) n.operands ≡ true → has_target n.op ≡ true → is_labelled l.places (node_of_label l.places (operand_at n 0)) ≡ true
  target-labelled fs first targets =
      let y = target_first fs n.operands first in
      let j = w.jumps s.at n y.0 y.1 here targets y.2 in
      ap (λ (xs : List Operand). is_labelled l.places (node_of_label l.places (slice_index_or xs 0 (operand.Number 0)))) y.2
      ∙ by (home l.nodes s.at) y.0 j
    where
      by : (h : Option ℕ) (y : Label) → JumpsTo l h (place_of l.places y) → is_labelled l.places (node_in (place_of l.places y)) ≡ true
      by None y j = ap (λ o. is_labelled l.places (node_in o)) j.place ∙ labelled-at l.places y j.node j.place
      by (Some p) y j = ap (λ o. is_labelled l.places (node_in o)) j.place ∙ labelled-at l.places y j.node j.place

  branched : (b : Bool) (u : State) → u.at ≡ s.at → is_labelled l.places (node_of_label l.places (operand_at n 0)) ≡ true → OnGoes (Arrives l s) (branch b l.places u (operand_at n 0))
  branched true u e h = inr (inl h)
  branched false u e h = inl (ap (λ k. k + 1) e)

  -- a word that is a label
  jumped : (k : ℕ) (v : ℕ) → jump_target t s.at v ≡ Some k → is_labelled l.places k ≡ true
  jumped k v e = let d = last_landed (is_target t s.at) l.places A v (length l.places) k e in labelled-bound l.places d.label k d.bound

  -- a function that is called has a label
  entered : (args : List ℕ) (k : ℕ) (f : Function) → f.entry ≡ k → is_labelled l.places k ≡ true → OnGoes (Arrives l s) (enter s args f)
  entered args k f e h = by _
    where
      by : (b : Bool) → OnGoes (Arrives l s) (when b (quiet (started (record s { frame = called s args; callers = s.frame ∷ s.callers }) f.entry)))
      by true = inr (inl (ap (is_labelled l.places) e ∙ h))
      by false = tt

  entry-of : (k : ℕ) (f : Function) → home l.nodes k ≡ Some k → function_here shape.functions k ≡ Some f → f.entry ≡ k
  entry-of k f h e =
      let there : home l.nodes k ≡ Some f.entry = here-home l a k f (ap (λ fs. function_here fs k) (sym same) ∙ e) in
      same_Some _ _ (sym there ∙ h)

  hosted : (h : Host) → OnGoes (Arrives l s) (host_end s h)
  hosted (Gives v changes mark bytes) = inl refl
  hosted (Exits status) = tt
  hosted Undefined = tt

  named : (args : List ℕ) (name : HostName) → OnGoes (Arrives l s) (call_host s args name)
  named args name = hosted _

  called-node : (args : List ℕ) (k : ℕ) → home l.nodes k ≡ Some k → is_labelled l.places k ≡ true → OnGoes (Arrives l s) (call_node t s args k)
  called-node args k h labelled = need_on (Arrives l s) (function_here shape.functions k) _ (λ f e. entered args k f (entry-of k f h e) labelled)

  called-operand : (args : List ℕ) (xs : List Operand) → n.operands ≡ xs → admit (form.Callee ∷ []) xs ≡ true → has_callee n.op ≡ true → OnGoes (Arrives l s) (call_operand t s args (slice_index_or xs 0 (operand.Number 0)))
  called-operand args [] e f c = cc
  called-operand args (operand.Reg r ∷ ys) e f c = cc
  called-operand args (operand.Number k ∷ ys) e f c = cc
  called-operand args (operand.Slot k ∷ ys) e f c = cc
  called-operand args (operand.Host name ∷ ys) e f c = named args name
  called-operand args (operand.Label y ∷ ys) e f c =
      let j = w.calls s.at n y ys here c e in
      subst (λ o. OnGoes (Arrives l s) (call_node t s args (node_in o))) (sym j.place) (called-node args j.node j.entry (labelled-at l.places y j.node j.place))

  word-entry : (v k : ℕ) → entry_target t v ≡ Some k → (home l.nodes k ≡ Some k) × (is_labelled l.places k ≡ true)
  word-entry v k e =
      let d = last_landed (is_entry_label t) l.places A v (length l.places) k e in
      (by (function_here shape.functions k) refl d.passes, labelled-bound l.places d.label k d.bound)
    where
      by : (o : Option Function) → function_here shape.functions k ≡ o → begins o k ≡ true → home l.nodes k ≡ Some k
      by None e b = cc
      by (Some f) e b = here-home l a k f (ap (λ fs. function_here fs k) (sym same) ∙ e) ∙ ap (λ (x : ℕ). Some x) (eqb-true f.entry k b)

  called-named : (args : List ℕ) (v : ℕ) (o : Option HostName) → OnGoes (Arrives l s) (call_named t s args v o)
  called-named args v (Some name) = named args name
  called-named args v None = need_on (Arrives l s) (entry_target t v) _ (λ k e. let f = word-entry v k e in called-node args k f.0 f.1)

  called-word : (args : List ℕ) → OnGoes (Arrives l s) (need (value A s (operand_at n 0)) (λ v. call_word t s args v))
  called-word args = need_on (Arrives l s) (value A s (operand_at n 0)) _ (λ v e. called-named args v (host_by_address v))

  returned : (v : Option ℕ) → OnGoes (Arrives l s) (leave s v)
  returned v = by s.callers refl
    where
      by : (fs : List Frame) → s.callers ≡ fs → OnGoes (Arrives l s) (back_to s v fs)
      by [] e = tt
      by (f ∷ fs) e = inr (inr (refl, f, fs, e))

  admitted : {o : Op} → n.op ≡ o → admit (forms_of o) n.operands ≡ true
  admitted e = ap (λ o. admit (forms_of o) n.operands) (sym e) ∙ formed.forms

  -- each operation that transfers control
  leap : (o : Op) → n.op ≡ o → leaps o ≡ true → OnGoes (Arrives l s) (node_step t n o s)
  leap (op.Branch c last) e h =
      let labelled = target-labelled (form.Read ∷ last_form last ∷ []) (admitted e) (ap has_target e) in
      need_on (Arrives l s) (value A s (operand_at n 1)) _ (λ x ex. need_on (Arrives l s) (value A s (operand_at n 2)) _ (λ y ey. branched (holds c x y) s refl labelled))
  leap (op.BranchSum o last) e h =
      let labelled = target-labelled (form.Update ∷ last_form last ∷ []) (admitted e) (ap has_target e) in
      need_on (Arrives l s) (value A s (operand_at n 1)) _ (λ x ex. need_on (Arrives l s) (value A s (operand_at n 2)) _ (λ y ey. branched (branch_sum_goes o x y) (with_reg s (operand_at n 1) (branch_sum_value o x y)) refl labelled))
  leap (op.Control control.Jmp last_operand.Immediate) e h = branched true s refl (target-labelled [] (admitted e) (ap has_target e))
  leap (op.Control control.Jmp last_operand.Register) e h = need_on (Arrives l s) (value A s (operand_at n 0)) _ (λ v ev. need_on (Arrives l s) (jump_target t s.at v) _ (λ k ek. inr (inl (jumped k v ek))))
  leap (op.Control control.Call last_operand.Immediate) e h = called-operand [] n.operands refl (admitted e) (ap has_callee e)
  leap (op.Control control.Call last_operand.Register) e h = called-word []
  leap (op.Control control.Finish last_operand.Immediate) e h = called-operand s.pushed n.operands refl (admitted e) (ap has_callee e)
  leap (op.Control control.Finish last_operand.Register) e h = called-word s.pushed
  leap (op.Control control.Ret last) e h = need_on (Arrives l s) (value A s (operand_at n 0)) _ (λ v ev. returned (Some v))
  leap (op.Plain plain.Ret) e h = returned None
  leap (op.Plain plain.Epilog) e h = returned None
  leap o e h = cc

  pub leap-arrives : leaps n.op ≡ true → OnGoes (Arrives l s) (node_step (text l shape A) n n.op s)
  leap-arrives h = leap n.op refl h
