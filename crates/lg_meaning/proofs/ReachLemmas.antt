-- A step goes to a successor, begins a function, or returns.
use Rattle.std.proofs.Common.{◌≡◌, inl, inr, ℕ, ◌+◌, ◌<◌, ◌≤◌, Bool, true, false, List, [], ◌∷◌, Option, Some, None, refl, sym, ap, ◌∙◌, subst, length, arith}
use Rattle.std.specs.Prelude.{◌&&◌, ◌-◌, nat_lt, nat_le, slice_get, slice_index_or}
use Rattle.std.specs.Option.{option_and_then}
use Rattle.std.proofs.lemmas.Bool.{and_parts}
use Rattle.lg_base.specs.HostNames.{host_by_address}
use Rattle.lg_base.specs.declared.host_name.HostName.{HostName}
use Rattle.lg_host.specs.Host.{Host, Gives, host_of, memory}
use Rattle.lg_op.specs.Forms.{admit, forms_of, last_form}
use Rattle.lg_op.specs.Nodes.{InForm}
use Rattle.lg_op.specs.declared.form.Form.{Form}
use Rattle.lg_op.specs.declared.form.Form.TheVariants as form
use Rattle.lg_op.specs.declared.node.Node.{Node}
use Rattle.lg_op.specs.declared.operand.Operand.{Operand}
use Rattle.lg_op.specs.declared.operand.Operand.TheVariants as operand
use Rattle.lg_op.specs.declared.op.LastOperand.{LastOperand}
use Rattle.lg_op.specs.declared.op.LastOperand.TheVariants as last_operand
use Rattle.lg_op.specs.declared.op.Op.{Op}
use Rattle.lg_op.specs.declared.op.Op.TheVariants as op
use Rattle.lg_op.specs.declared.op.ControlOp.TheVariants as control
use Rattle.lg_op.specs.declared.op.PlainOp.TheVariants as plain
use Rattle.lg_node.specs.declared.place.Place.{Place}
use Rattle.lg_node.specs.declared.place.Place.TheVariants as place
use Rattle.lg_node.specs.declared.function.Function.{Function}
use Rattle.lg_node.specs.Nodes.{LabelledNodes}
use Rattle.lg_base.specs.Spaces.{stored}
use Rattle.lg_cells.specs.Memories.{writable}
use Rattle.lg_node.specs.Functions.{home, functions, frame_of}
use Rattle.lg_node.specs.Labels.{place_of}
use Rattle.lg_node.specs.ShapeLaws.{JumpsTo, has_target}
use Rattle.lg_node.specs.Shapes.{TextShape, IsShapeOf, IsTakenIn, IsTarget, IsNext, GoesBy, Way, Next, Jump, Either, Taken, way_of, target_of}
use Rattle.lg_node.proofs.SuccessorLaws.{has_functions}
use Rattle.lg_node.proofs.WellShaped.{well_shaped as accepted_well_shaped}
use Rattle.lg_meaning.specs.States.{State, value, is_open}
use Rattle.lg_meaning.specs.Steps.{Outcome, operand_at, va_start_step, va_arg_step, va_end_step, node_of_label, node_in, branch, function_here, is_after, is_target, jump_target, jump_step, host_end, call_host, is_marked, call_node, call_operand, call_named, call_step, entry_target, store_step, stored_operand, address, push_step, prolog_step, node_step, with_reg, quiet, on, on_with_carry, started, called, prepare_step, ellipsis_step, wide_step, unary_step, movi_step, load_step, retval_step, getarg_step}
use Rattle.lg_op.specs.Operators.{store_width, holds, branch_sum_value, branch_sum_goes}
use Rattle.lg_meaning.specs.Texts.{text, step_at}
use Rattle.lg_meaning.proofs.FallLemmas.{Falls, binary_node_falls, wide_falls, unary_falls, movi_falls, load_falls, retval_falls, getarg_falls, va_start_falls, va_arg_falls, va_end_falls}
use Rattle.lg_meaning.proofs.FunctionFacts.{function_at_home}
use Rattle.lg_meaning.proofs.NodeFacts.{target_first}
use Rattle.lg_meaning.proofs.Outcomes.{OnGoes, need_on, when_on, on_weaker, on_result}
use Rattle.lg_meaning.proofs.StayLemmas.{Lands, last_landed}
use Rattle.lg_meaning.specs.Reaching.{is_return, Reaches, StepsReachSuccessors, TakenLabelsAreSuccessors}

-- the target of a node
record IsAim (l : LabelledNodes) (n : Node) : Type 0 where
  node : ℕ
  target : IsTarget l n node
  goes : node_of_label l.places (operand_at n 0) ≡ node

module _ (l : LabelledNodes) (shape : TextShape) (s : State) (n : Node) (is : IsShapeOf l shape) (formed : InForm n) (here : slice_get l.nodes s.at ≡ Some n) (A : List ℕ) where
  -- where a step goes, if there is a node
  Comes : State → Type 0
  Comes t = t.at < length l.nodes → Reaches l shape s t

  IsOnward : State → Type 0
  IsOnward t = t.at ≡ s.at + 1

  -- to the next node
  comes_next : (w : Way) → way_of n.op ≡ w → (o : Outcome) → ((k : ℕ) → IsNext l s.at k → GoesBy l shape s.at n w k) → OnGoes IsOnward o → OnGoes Comes o
  unfolding Comes IsOnward
  comes_next w e o goes h = on_weaker IsOnward Comes (λ t at lt. inl record { node = n; here = here; goes = subst (λ (x : Way). GoesBy l shape s.at n x t.at) (sym e) (goes t.at (at, lt)) }) o h

  onward : way_of n.op ≡ Next → (o : Outcome) → OnGoes IsOnward o → OnGoes Comes o
  onward e o h = comes_next Next e o (λ k g. g) h

  falls_onward : way_of n.op ≡ Next → (o : Outcome) → OnGoes (Falls s) o → OnGoes Comes o
  unfolding IsOnward
  falls_onward e o h = onward e o (on_weaker (Falls s) IsOnward (λ t f. f.at) o h)

  -- ---- targets
  placed : (o : Option ℕ) (p : Option Place) → JumpsTo l o p → (k : ℕ) × (p ≡ Some (place.Node k))
  placed None p j = (j.node, j.place)
  placed (Some h) p j = (j.node, j.place)

  aim : (fs : List Form) → admit (form.Target ∷ fs) n.operands ≡ true → has_target n.op ≡ true → IsAim l n
  aim fs first targets =
      let y = target_first fs n.operands first in
      let shaped = accepted_well_shaped l is.accepted in
      let k = placed (home l.nodes s.at) (place_of l.places y.0) (shaped.jumps s.at n y.0 y.1 here targets y.2) in
      record {
        node = k.0;
        target = ap (target_of l.places) y.2 ∙ k.1;
        goes = ap (λ (xs : List Operand). node_of_label l.places (slice_index_or xs 0 (operand.Number 0))) y.2 ∙ ap node_in k.1;
      }

  branch_comes : way_of n.op ≡ Either → IsAim l n → (b : Bool) (regs : ℕ → Option ℕ) → OnGoes Comes (branch b l.places (record s { regs = regs }) (operand_at n 0))
  unfolding Comes
  branch_comes e a true regs = λ lt. inl record { node = n; here = here; goes = subst (λ (x : Way). GoesBy l shape s.at n x (node_of_label l.places (operand_at n 0))) (sym e) (inl (a.target ∙ ap (λ k. Some (place.Node k)) (sym a.goes))) }
  branch_comes e a false regs = λ lt. inl record { node = n; here = here; goes = subst (λ (x : Way). GoesBy l shape s.at n x (s.at + 1)) (sym e) (inr (refl, lt)) }

  jump_comes : way_of n.op ≡ Jump → IsAim l n → OnGoes Comes (branch true l.places s (operand_at n 0))
  unfolding Comes
  jump_comes e a = λ lt. inl record { node = n; here = here; goes = subst (λ (x : Way). GoesBy l shape s.at n x (node_of_label l.places (operand_at n 0))) (sym e) (a.target ∙ ap (λ k. Some (place.Node k)) (sym a.goes)) }

  -- ---- `jmpr`
  taken_in : (k : ℕ) → Lands (is_target (text l shape A) s.at) l.places k → (o : Option ℕ) → home l.nodes s.at ≡ o → IsTakenIn l shape s.at k
  taken_in k d (Some p) h =
      let parts = and_parts (slice_index_or shape.taken d.label false) (is_after (function_here shape.functions s.at) k) d.passes in
      let f = function_at_home l shape (has_functions l is.accepted) is.functions s.at p h in
      let range : (nat_lt f.0.entry k && nat_le k f.0.last) ≡ true = rw f.1.here at parts.1 in
      let low : f.0.entry < k = grind arith in
      let high : k ≤ f.0.last = grind arith in
      record {
        label = d.label;
        taken = parts.0;
        place = d.bound;
        function = p;
        here = h;
        there = f.1.is.all k (omega arith) high ∙ ap Some f.1.entry;
        behind = omega (arith, f.1.entry);
      }
  taken_in k d None h =
      let parts = and_parts (slice_index_or shape.taken d.label false) (is_after (function_here shape.functions s.at) k) d.passes in
      let out = (has_functions l is.accepted).outside s.at h in
      let none : function_here shape.functions s.at ≡ None = ap (λ (fs : List Function). function_here fs s.at) is.functions ∙ ap (option_and_then (slice_get (functions l.nodes))) out.0 in
      let never : false ≡ true = rw none at parts.1 in
      absurd (cc)

  jump_register_comes : way_of n.op ≡ Taken → OnGoes Comes (jump_step (text l shape A) n s)
  unfolding Comes
  jump_register_comes e =
      need_on Comes (value A s (operand_at n 0)) _ (λ w v. need_on Comes (jump_target (text l shape A) s.at w) _ (λ k t lt.
      inl record { node = n; here = here; goes = subst (λ (x : Way). GoesBy l shape s.at n x k) (sym e) (taken_in k (last_landed (is_target (text l shape A) s.at) l.places A w (length l.places) k t) (home l.nodes s.at) refl) }))

  -- ---- calls
  host_onward : (o : Host) → OnGoes IsOnward (host_end s o)
  unfolding IsOnward
  host_onward (Gives v changes mark bytes) = refl
  host_onward _ = tt

  begins_comes : (args : List ℕ) (k : ℕ) → OnGoes Comes (call_node (text l shape A) s args k)
  unfolding Comes
  begins_comes args k = need_on Comes (function_here shape.functions k) _ (λ f e. when_on Comes (nat_le (0x3FF00010 + frame_of f) (s.frame.sp - s.frame.size)) (quiet (started (record s { frame = called s args; callers = s.frame ∷ s.callers }) f.entry)) (λ g lt. inr (λ r. refl)))

  module _ (e : way_of n.op ≡ Next) where
    host_comes : (args : List ℕ) (name : HostName) → OnGoes Comes (call_host s args name)
    host_comes args name = onward e (call_host s args name) (host_onward (host_of name args (is_marked s.variadic) (memory s.mem (is_open s) s.mark)))

    operand_comes : (args : List ℕ) (x : Operand) → OnGoes Comes (call_operand (text l shape A) s args x)
    operand_comes args (operand.Host name) = host_comes args name
    operand_comes args x = begins_comes args (node_of_label l.places x)

    named_comes : (args : List ℕ) (w : ℕ) (o : Option HostName) → OnGoes Comes (call_named (text l shape A) s args w o)
    named_comes args w (Some name) = host_comes args name
    named_comes args w None = need_on Comes (entry_target (text l shape A) w) _ (λ k t. begins_comes args k)

    call_comes : (last : LastOperand) (args : List ℕ) → OnGoes Comes (call_step (text l shape A) n last args s)
    call_comes last_operand.Immediate args = operand_comes args (operand_at n 0)
    call_comes last_operand.Register args = need_on Comes (value A s (operand_at n 0)) _ (λ w v. named_comes args w (host_by_address w))

  -- ---- the table
  forms_at : (o : Op) → n.op ≡ o → admit (forms_of o) n.operands ≡ true
  forms_at o e = subst (λ (p : Op). admit (forms_of p) n.operands ≡ true) e formed.forms

  comes_of : (o : Op) → n.op ≡ o → is_return o ≡ false → OnGoes Comes (node_step (text l shape A) n o s)
  unfolding IsOnward
  comes_of (op.Binary a b) e k = falls_onward (ap way_of e) (node_step (text l shape A) n (op.Binary a b) s) (binary_node_falls s (text l shape A) n a b)
  comes_of (op.Wide a b) e k = falls_onward (ap way_of e) (wide_step A n a s) (wide_falls s A n a)
  comes_of (op.Branch c last) e k =
      let a = aim (form.Read ∷ last_form last ∷ []) (forms_at (op.Branch c last) e) (rw e refl) in
      need_on Comes (value A s (operand_at n 1)) _ (λ x h. need_on Comes (value A s (operand_at n 2)) _ (λ y g. branch_comes (ap way_of e) a (holds c x y) s.regs))
  comes_of (op.BranchSum o last) e k =
      let a = aim (form.Update ∷ last_form last ∷ []) (forms_at (op.BranchSum o last) e) (rw e refl) in
      need_on Comes (value A s (operand_at n 1)) _ (λ x h. need_on Comes (value A s (operand_at n 2)) _ (λ y g. branch_comes (ap way_of e) a (branch_sum_goes o x y) (with_reg s (operand_at n 1) (branch_sum_value o x y)).regs))
  comes_of (op.Control control.Jmp last_operand.Register) e k = jump_register_comes (ap way_of e)
  comes_of (op.Control control.Jmp last_operand.Immediate) e k = jump_comes (ap way_of e) (aim [] (forms_at (op.Control control.Jmp last_operand.Immediate) e) (rw e refl))
  comes_of (op.Control control.Call last) e k = call_comes (ap way_of e) last []
  comes_of (op.Control control.Finish last) e k = call_comes (ap way_of e) last s.pushed
  comes_of (op.Control control.Pusharg last) e k = onward (ap way_of e) (push_step A n s) (need_on IsOnward (value A s (operand_at n 0)) _ (λ v h. refl))
  comes_of (op.Control control.Ret last) e k = absurd (cc)
  comes_of (op.Unary a) e k = falls_onward (ap way_of e) (unary_step A n a s) (unary_falls s A n a)
  comes_of (op.Plain plain.Movi) e k = falls_onward (ap way_of e) (movi_step A n s) (movi_falls s A n)
  comes_of (op.Plain plain.Prepare) e k = onward (ap way_of e) (prepare_step s) refl
  comes_of (op.Plain plain.Ellipsis) e k = onward (ap way_of e) (ellipsis_step s) refl
  comes_of (op.Plain plain.Prolog) e k = onward (ap way_of e) (prolog_step (text l shape A) s) (need_on IsOnward (function_here shape.functions s.at) _ (λ f h. refl))
  comes_of (op.Plain plain.Epilog) e k = absurd (cc)
  comes_of (op.Plain plain.Ret) e k = absurd (cc)
  comes_of (op.Plain plain.VaStart) e k = falls_onward (ap way_of e) (va_start_step A n s) (va_start_falls s A n)
  comes_of (op.Plain plain.VaArg) e k = falls_onward (ap way_of e) (va_arg_step A n s) (va_arg_falls s A n)
  comes_of (op.Plain plain.VaEnd) e k = falls_onward (ap way_of e) (va_end_step A n s) (va_end_falls s A n)
  comes_of (op.Plain _) e k = onward (ap way_of e) (quiet (on s)) refl
  comes_of (op.Load v at) e k = falls_onward (ap way_of e) (load_step A n v at s) (load_falls s A n v at)
  comes_of (op.Store t at) e k = onward (ap way_of e) (store_step A n t at s) (need_on IsOnward (address A s at n 0) _ (λ a h. need_on IsOnward (value A s (operand_at n (stored_operand at))) _ (λ v g. when_on IsOnward (writable (is_open s) a (store_width t)) (quiet (on_with_carry (record s { mem = stored s.mem a (store_width t) v }))) (λ c. refl))))
  comes_of (op.Retval v) e k = falls_onward (ap way_of e) (retval_step n v s) (retval_falls s n v)
  comes_of (op.Getarg v) e k = falls_onward (ap way_of e) (getarg_step n v s) (getarg_falls s n v)

pub reaches : StepsReachSuccessors
unfolding Comes
reaches l shape A s t n bytes is formed here returns e lt =
    on_result (Comes l shape s n is formed here A) (node_step (text l shape A) n n.op s) t bytes (comes_of l shape s n is formed here A n.op refl returns) (ap (λ o. step_at (text l shape A) o s) (sym here) ∙ e) lt

-- ---- the taken labels of a function
pub taken-succeed : TakenLabelsAreSuccessors
taken-succeed l shape i k label function n here jumps inside taken bound there behind = record {
  node = n;
  here = here;
  goes = subst (λ (o : Op). GoesBy l shape i n (way_of o) k) (sym jumps) record { label = label; taken = taken; place = bound; function = function; here = inside; there = there; behind = behind };
}
