-- The nodes that branch, jump, call and return, `prolog`, `.align` and those without code are carried by their code.
use Rattle.std.proofs.Common.{◌≡◌, ℕ, Bool, true, false, List, [], ◌∷◌, ◌^◌, ◌<◌, refl, sym, ap, subst, arith}
use Rattle.std.specs.Prelude.{◌&&◌, slice_index}
use Rattle.lg_base.specs.HostNames.{host_address}
use Rattle.lg_base.specs.declared.host_name.HostName.{HostName}
use Rattle.lg_op.specs.Forms.{is_alignment, admits, admit, last_form, forms_of}
use Rattle.lg_op.specs.declared.form.Form.TheVariants as form
use Rattle.lg_op.specs.declared.op.BranchSumOp.{BranchSumOp}
use Rattle.lg_op.specs.declared.op.Condition.{Condition}
use Rattle.lg_op.specs.declared.op.ControlOp.TheVariants as control
use Rattle.lg_op.specs.declared.op.LastOperand.{LastOperand}
use Rattle.lg_op.specs.declared.op.LastOperand.TheVariants as last_operand
use Rattle.lg_op.specs.declared.op.Op.{Op}
use Rattle.lg_op.specs.declared.op.Op.TheVariants as op
use Rattle.lg_op.specs.declared.op.PlainOp.TheVariants as plain
use Rattle.lg_op.specs.declared.operand.Operand.{Operand}
use Rattle.lg_op.specs.declared.operand.Operand.TheVariants as operand
use Rattle.lg_op.specs.declared.node.Node.{Node}
use Rattle.lg_node.specs.Functions.{is_prolog_at}
use Rattle.lg_meaning.proofs.FunctionFacts.{function_at_home}
use Rattle.lg_carry.specs.FinalNodes.{Code, saved_at}
use Rattle.lg_carry.specs.NodeCode.{CarriesNode}
use Rattle.lg_carry.proofs.OfNodes.CallLemmas.{calls-carry, finishes-carry}
use Rattle.lg_carry.proofs.OfNodes.HostLemmas.{host-calls-carry, host-finishes-carry}
use Rattle.lg_sel.proofs.OfControl.PrologLemmas.{prologs-carry}
use Rattle.lg_sel.specs.Control.Prologs.{IsHomesOf}
use Rattle.lg_sel.proofs.OfControl.ReturnLemmas.{returns-carry}
use Rattle.lg_sel.proofs.OfControl.RegisterLeapLemmas.{register-jumps-carry, register-calls-carry, register-finishes-carry}
use Rattle.lg_sel.proofs.OfControl.SilentLemmas.{silent-nodes-carry}
use Rattle.lg_sel.proofs.OfControl.WalkLemmas.{jumps-carry, alignments-carry}
use Rattle.lg_carry.proofs.OfNodes.BranchLemmas.{branches-carry}
use Rattle.lg_sel.proofs.OfControl.SumBranchLemmas.{sum-branches-carry}
use Rattle.lg_base.specs.declared.host_name.HostName.TheVariants as host
use Rattle.lg_carry.specs.Passages.{IsNodeCode}
use Rattle.lg_carry.specs.Rows.{Rows}
use Rattle.lg_carry.specs.TextNodes.{IsInText, IsFrameOf}
use Rattle.lg_carry.specs.Nodes.Leaps.{HasPlaces}
use Rattle.lg_carry.specs.Nodes.Operands.{AreWords}
use Rattle.lg_sel.specs.Control.Control.{Codes, Controls, control_code, is_control, ends_in_label, ControlNodesCarry}

-- ---- operands that are in no form
pub differ : false ≡ true → ⊥
differ e = cc

pub differs : true ≡ false → ⊥
differs e = cc

pub never : (b : Bool) → (b && false) ≡ true → ⊥
never true e = cc
never false e = cc

pub never-sum : (a b : Bool) → (a && (b && false)) ≡ true → ⊥
never-sum true true e = cc
never-sum true false e = cc
never-sum false b e = cc

pub host-small : (name : HostName) → host_address name < 2 ^ 64
host-small host.Printf = omega arith
host-small name = omega arith

-- ---- the nodes
module _ {Q I : Type 0} (R : Rows Q I) (scratch : ℕ → Bool) (fits : I → Type 0) (ready : HostName → (ℕ → ℕ) → Bool) (saved : ℕ) (C : Codes I)
    (T : Controls R scratch fits ready saved C)
    (c : Code) (i frame homes line : ℕ) (S : ℕ → Bool) (w : HasPlaces R c) (is-frame : IsFrameOf c i frame) (is-homes : IsHomesOf c i homes)
    (is-saved : saved_at c i ≡ saved) where
  abbrev node : Op → List Operand → Node
  node o xs = record { op = o; operands = xs; line = line }

  abbrev to : ℕ → ℕ
  to = slice_index c.addresses

  abbrev code-of : Op → List Operand → List I
  code-of o xs = control_code C to frame homes (c.place i) o xs

  formed : (o : Op) (xs : List Operand) → IsInText c i (node o xs) → admit (forms_of o) xs ≡ true
  formed o xs t = (t.formed (node o xs) t.here).forms

  branch : (o : Condition) (last : LastOperand) (xs : List Operand) → admit (forms_of (op.Branch o last)) xs ≡ true → AreWords c.addresses xs
      → ends_in_label xs ≡ false → IsInText c i (node (op.Branch o last) xs)
      → IsNodeCode R fits c i (code-of (op.Branch o last) xs) → CarriesNode R.processor c i (node (op.Branch o last) xs) S
  branch o last_operand.Register (operand.Label l ∷ operand.Reg a ∷ operand.Reg b ∷ []) h v e t k =
      branches-carry R scratch fits T.isa C.branch T.branches c i o l a (operand.Reg b) line frame S tt w t is-frame k
  branch o last_operand.Immediate (operand.Label l ∷ operand.Reg a ∷ operand.Number x ∷ []) h v e t k =
      branches-carry R scratch fits T.isa C.branch T.branches c i o l a (operand.Number x) line frame S (x, refl, v.1.1.0) w t is-frame k
  branch o last_operand.Immediate (operand.Label l ∷ operand.Reg a ∷ operand.Host name ∷ []) h v e t k =
      branches-carry R scratch fits T.isa C.branch T.branches c i o l a (operand.Host name) line frame S
      (host_address name, refl, host-small name) w t is-frame k
  branch o last_operand.Immediate (operand.Label l ∷ operand.Reg a ∷ operand.Label m ∷ []) h v e t k = absurd (differs e)
  branch o last (operand.Label l ∷ operand.Reg a ∷ x ∷ y ∷ ys) h v e t k = absurd (never (admits (last_form last) x) h)
  branch o last xs h v e t k = absurd (differ h)

  sum-branch : (o : BranchSumOp) (last : LastOperand) (xs : List Operand) → admit (forms_of (op.BranchSum o last)) xs ≡ true → AreWords c.addresses xs
      → ends_in_label xs ≡ false → IsInText c i (node (op.BranchSum o last) xs)
      → IsNodeCode R fits c i (code-of (op.BranchSum o last) xs) → CarriesNode R.processor c i (node (op.BranchSum o last) xs) S
  sum-branch o last_operand.Register (operand.Label l ∷ operand.Reg a ∷ operand.Reg b ∷ []) h v e t k =
      sum-branches-carry R scratch fits T.isa C.sum_branch T.sum_branches c i o l a (operand.Reg b) line frame S tt w t is-frame k
  sum-branch o last_operand.Immediate (operand.Label l ∷ operand.Reg a ∷ operand.Number x ∷ []) h v e t k =
      sum-branches-carry R scratch fits T.isa C.sum_branch T.sum_branches c i o l a (operand.Number x) line frame S (x, refl, v.1.1.0) w t is-frame k
  sum-branch o last_operand.Immediate (operand.Label l ∷ operand.Reg a ∷ operand.Host name ∷ []) h v e t k =
      sum-branches-carry R scratch fits T.isa C.sum_branch T.sum_branches c i o l a (operand.Host name) line frame S
      (host_address name, refl, host-small name) w t is-frame k
  sum-branch o last_operand.Immediate (operand.Label l ∷ operand.Reg a ∷ operand.Label m ∷ []) h v e t k = absurd (differs e)
  sum-branch o last (operand.Label l ∷ operand.Reg a ∷ x ∷ y ∷ ys) h v e t k =
      absurd (never-sum (admits form.Update (operand.Reg a)) (admits (last_form last) x) h)
  sum-branch o last (operand.Label l ∷ operand.Reg a ∷ []) h v e t k = absurd (never (admits form.Update (operand.Reg a)) h)
  sum-branch o last_operand.Register (operand.Label l ∷ operand.Reg a ∷ operand.Number x ∷ []) h v e t k = absurd (never (admits form.Update (operand.Reg a)) h)
  sum-branch o last_operand.Register (operand.Label l ∷ operand.Reg a ∷ operand.Label x ∷ []) h v e t k = absurd (never (admits form.Update (operand.Reg a)) h)
  sum-branch o last_operand.Register (operand.Label l ∷ operand.Reg a ∷ operand.Host x ∷ []) h v e t k = absurd (never (admits form.Update (operand.Reg a)) h)
  sum-branch o last_operand.Register (operand.Label l ∷ operand.Reg a ∷ operand.Slot x ∷ []) h v e t k = absurd (never (admits form.Update (operand.Reg a)) h)
  sum-branch o last_operand.Immediate (operand.Label l ∷ operand.Reg a ∷ operand.Reg x ∷ []) h v e t k = absurd (never (admits form.Update (operand.Reg a)) h)
  sum-branch o last_operand.Immediate (operand.Label l ∷ operand.Reg a ∷ operand.Slot x ∷ []) h v e t k = absurd (never (admits form.Update (operand.Reg a)) h)
  sum-branch o last xs h v e t k = absurd (differ h)

  jump : (xs : List Operand) → admit (forms_of (op.Control control.Jmp last_operand.Immediate)) xs ≡ true
      → IsInText c i (node (op.Control control.Jmp last_operand.Immediate) xs)
      → IsNodeCode R fits c i (code-of (op.Control control.Jmp last_operand.Immediate) xs)
      → CarriesNode R.processor c i (node (op.Control control.Jmp last_operand.Immediate) xs) S
  jump (operand.Label l ∷ []) h t k = jumps-carry R fits T.isa.rows C.jump T.jumps c i l line S w t k
  jump xs h t k = absurd (differ h)

  call : (xs : List Operand) → admit (forms_of (op.Control control.Call last_operand.Immediate)) xs ≡ true
      → IsInText c i (node (op.Control control.Call last_operand.Immediate) xs)
      → IsNodeCode R fits c i (code-of (op.Control control.Call last_operand.Immediate) xs)
      → CarriesNode R.processor c i (node (op.Control control.Call last_operand.Immediate) xs) S
  call (operand.Label l ∷ []) h t k = calls-carry R fits C.call T.calls c i l line S w t frame is-frame k
  call (operand.Host name ∷ []) h t k = host-calls-carry R ready fits T.hosts C.host_call T.host_calls c i name line S w t frame is-frame k
  call xs h t k = absurd (differ h)

  finish : (xs : List Operand) → admit (forms_of (op.Control control.Finish last_operand.Immediate)) xs ≡ true
      → IsInText c i (node (op.Control control.Finish last_operand.Immediate) xs)
      → IsNodeCode R fits c i (code-of (op.Control control.Finish last_operand.Immediate) xs)
      → CarriesNode R.processor c i (node (op.Control control.Finish last_operand.Immediate) xs) S
  finish (operand.Label l ∷ []) h t k = finishes-carry R fits C.call T.calls c i l line S w t frame is-frame k
  finish (operand.Host name ∷ []) h t k = host-finishes-carry R ready fits T.hosts C.host_call T.host_calls c i name line S w t frame is-frame k
  finish xs h t k = absurd (differ h)

  -- jumps and calls of the word of a register
  register-jump : (xs : List Operand) → admit (forms_of (op.Control control.Jmp last_operand.Register)) xs ≡ true
      → IsInText c i (node (op.Control control.Jmp last_operand.Register) xs)
      → IsNodeCode R fits c i (code-of (op.Control control.Jmp last_operand.Register) xs)
      → CarriesNode R.processor c i (node (op.Control control.Jmp last_operand.Register) xs) S
  register-jump (operand.Reg a ∷ []) h t k = register-jumps-carry R fits T.isa.rows C.register_jump T.register_jumps c i a line frame S w t is-frame k
  register-jump (x ∷ y ∷ ys) h t k = absurd (never (admits form.Read x) h)
  register-jump xs h t k = absurd (differ h)

  register-call : (xs : List Operand) → admit (forms_of (op.Control control.Call last_operand.Register)) xs ≡ true
      → IsInText c i (node (op.Control control.Call last_operand.Register) xs)
      → IsNodeCode R fits c i (code-of (op.Control control.Call last_operand.Register) xs)
      → CarriesNode R.processor c i (node (op.Control control.Call last_operand.Register) xs) S
  register-call (operand.Reg a ∷ []) h t k =
      register-calls-carry R ready fits T.hosts C.register_call T.register_calls T.register_host_calls c i a line frame S w t is-frame k
  register-call (x ∷ y ∷ ys) h t k = absurd (never (admits form.Read x) h)
  register-call xs h t k = absurd (differ h)

  register-finish : (xs : List Operand) → admit (forms_of (op.Control control.Finish last_operand.Register)) xs ≡ true
      → IsInText c i (node (op.Control control.Finish last_operand.Register) xs)
      → IsNodeCode R fits c i (code-of (op.Control control.Finish last_operand.Register) xs)
      → CarriesNode R.processor c i (node (op.Control control.Finish last_operand.Register) xs) S
  register-finish (operand.Reg a ∷ []) h t k =
      register-finishes-carry R ready fits T.hosts C.register_call T.register_calls T.register_host_calls c i a line frame S w t is-frame k
  register-finish (x ∷ y ∷ ys) h t k = absurd (never (admits form.Read x) h)
  register-finish xs h t k = absurd (differ h)

  ret : (last : LastOperand) (xs : List Operand) → admit (forms_of (op.Control control.Ret last)) xs ≡ true → AreWords c.addresses xs
      → IsInText c i (node (op.Control control.Ret last) xs) → IsNodeCode R fits c i (code-of (op.Control control.Ret last) xs)
      → CarriesNode R.processor c i (node (op.Control control.Ret last) xs) S
  ret last_operand.Register (operand.Reg a ∷ []) h v t k = (returns-carry R fits saved C.ret T.returns).retrs c i line a frame S w t is-frame is-saved k
  ret last_operand.Immediate (operand.Number x ∷ []) h v t k = (returns-carry R fits saved C.ret T.returns).retis c i line
      (operand.Number x) x refl v.0 frame S w t is-frame is-saved k
  ret last_operand.Immediate (operand.Host name ∷ []) h v t k =
      (returns-carry R fits saved C.ret T.returns).retis c i line (operand.Host name) (host_address name) refl (host-small name) frame S w t is-frame is-saved k
  ret last_operand.Immediate (operand.Label l ∷ []) h v t k = (returns-carry R fits saved C.ret T.returns).labels c i line l v.0 frame S w t is-frame is-saved k
  ret last_operand.Register (x ∷ y ∷ ys) h v t k = absurd (never (admits form.Read x) h)
  ret last_operand.Immediate (x ∷ y ∷ ys) h v t k = absurd (never (admits form.Immediate x) h)
  ret last xs h v t k = absurd (differ h)

  align : (xs : List Operand) → admit (forms_of (op.Plain plain.Align)) xs ≡ true → IsInText c i (node (op.Plain plain.Align) xs)
      → IsNodeCode R fits c i (code-of (op.Plain plain.Align) xs) → CarriesNode R.processor c i (node (op.Plain plain.Align) xs) S
  align (operand.Number n ∷ []) h t k = alignments-carry R fits T.isa.rows C.align T.alignments c i n line S w t k
  align (operand.Number n ∷ y ∷ ys) h t k = absurd (never (is_alignment n) h)
  align xs h t k = absurd (differ h)

  prolog : IsInText c i (node (op.Plain plain.Prolog) []) → IsNodeCode R fits c i (code-of (op.Plain plain.Prolog) [])
      → CarriesNode R.processor c i (node (op.Plain plain.Prolog) []) S
  prolog t k =
      let entry = (t.well.entries i (ap is_prolog_at t.here)).0 in
      let f = function_at_home c.nodes c.shape t.functions t.shape.functions i i entry in
      prologs-carry R fits saved C.prolog T.prologs c i line homes f.0 S t f.1.here is-saved (is-homes (ap is_prolog_at t.here))
      (subst (λ z. IsNodeCode R fits c i (C.prolog z homes)) (is-frame f.0 f.1.here) k)

  -- a node without operands
  none : (xs : List Operand) → admit [] xs ≡ true → xs ≡ []
  none [] h = refl
  none (x ∷ xs) h = cc

  with-none : (o : Op) (xs : List Operand) → xs ≡ [] → IsInText c i (node o xs) → IsNodeCode R fits c i (code-of o xs)
      → (IsInText c i (node o []) → IsNodeCode R fits c i (code-of o []) → CarriesNode R.processor c i (node o []) S)
      → CarriesNode R.processor c i (node o xs) S
  with-none o xs e t k f = subst (λ ys. IsInText c i (node o ys) → IsNodeCode R fits c i (code-of o ys)
      → CarriesNode R.processor c i (node o ys) S) (sym e) f t k

  pub by-op : (o : Op) (xs : List Operand) → is_control o ≡ true → AreWords c.addresses xs → ends_in_label xs ≡ false → IsInText c i (node o xs)
      → IsNodeCode R fits c i (code-of o xs) → CarriesNode R.processor c i (node o xs) S
  by-op (op.Branch o last) xs h v e t k = branch o last xs (formed (op.Branch o last) xs t) v e t k
  by-op (op.BranchSum o last) xs h v e t k = sum-branch o last xs (formed (op.BranchSum o last) xs t) v e t k
  by-op (op.Control control.Jmp last_operand.Immediate) xs h v e t k = jump xs (formed (op.Control control.Jmp last_operand.Immediate) xs t) t k
  by-op (op.Control control.Jmp last_operand.Register) xs h v e t k = register-jump xs (formed (op.Control control.Jmp last_operand.Register) xs t) t k
  by-op (op.Control control.Call last_operand.Register) xs h v e t k = register-call xs (formed (op.Control control.Call last_operand.Register) xs t) t k
  by-op (op.Control control.Finish last_operand.Register) xs h v e t k = register-finish xs (formed (op.Control control.Finish last_operand.Register) xs t) t k
  by-op (op.Control control.Call last_operand.Immediate) xs h v e t k = call xs (formed (op.Control control.Call last_operand.Immediate) xs t) t k
  by-op (op.Control control.Finish last_operand.Immediate) xs h v e t k = finish xs (formed (op.Control control.Finish last_operand.Immediate) xs t) t k
  by-op (op.Control control.Ret last) xs h v e t k = ret last xs (formed (op.Control control.Ret last) xs t) v t k
  by-op (op.Plain plain.Prolog) xs h v e t k = with-none (op.Plain plain.Prolog) xs (none xs (formed (op.Plain plain.Prolog) xs t)) t k prolog
  by-op (op.Plain plain.Epilog) xs h v e t k = with-none (op.Plain plain.Epilog) xs (none xs (formed (op.Plain plain.Epilog) xs t)) t k
      (λ t' k'. (returns-carry R fits saved C.ret T.returns).epilogs c i line frame S w t' is-frame is-saved k')
  by-op (op.Plain plain.Ret) xs h v e t k = with-none (op.Plain plain.Ret) xs (none xs (formed (op.Plain plain.Ret) xs t)) t k
      (λ t' k'. (returns-carry R fits saved C.ret T.returns).rets c i line frame S w t' is-frame is-saved k')
  by-op (op.Plain plain.Align) xs h v e t k = align xs (formed (op.Plain plain.Align) xs t) t k
  by-op (op.Plain plain.Prepare) xs h v e t k = silent-nodes-carry R fits T.isa.rows c i (node (op.Plain plain.Prepare) xs) S refl t k
  by-op (op.Plain plain.Ellipsis) xs h v e t k = silent-nodes-carry R fits T.isa.rows c i (node (op.Plain plain.Ellipsis) xs) S refl t k
  by-op (op.Plain plain.Arg) xs h v e t k = silent-nodes-carry R fits T.isa.rows c i (node (op.Plain plain.Arg) xs) S refl t k
  by-op (op.Plain plain.Allocai) xs h v e t k = silent-nodes-carry R fits T.isa.rows c i (node (op.Plain plain.Allocai) xs) S refl t k
  by-op (op.Plain plain.VaEnd) xs h v e t k = silent-nodes-carry R fits T.isa.rows c i (node (op.Plain plain.VaEnd) xs) S refl t k
  by-op o xs h v e t k = absurd (differ h)

pub control-nodes-carry : {Q I : Type 0} (R : Rows Q I) (scratch : ℕ → Bool) (fits : I → Type 0) (ready : HostName → (ℕ → ℕ) → Bool) (saved : ℕ) (C : Codes I)
    → Controls R scratch fits ready saved C
    → ControlNodesCarry R fits saved C
control-nodes-carry R scratch fits ready saved C T c i n frame homes S h w v e is-frame is-homes is-saved t k =
    by-op R scratch fits ready saved C T c i frame homes n.line S w is-frame is-homes is-saved n.op n.operands h v e t k
