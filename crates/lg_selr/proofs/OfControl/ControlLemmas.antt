-- The nodes that branch, jump, call and return, `prolog`, `.align` and those without code are carried by their items.
use Rattle.std.proofs.Common.{◌≡◌, ℕ, ◌+◌, ◌*◌, Bool, true, false, List, [], ◌∷◌, ◌++◌, refl, sym, ap, ◌∙◌, subst, arith, length, append_assoc}
use Rattle.std.specs.Prelude.{◌==◌, if◌then◌else◌, slice_index, pos}
use Rattle.lg_base.specs.HostNames.{host_address}
use Rattle.lg_base.specs.declared.target.Target.TheVariants.{Riscv64}
use Rattle.lg_op.specs.declared.op.Op.{Op}
use Rattle.lg_op.specs.declared.op.Op.TheVariants as op
use Rattle.lg_op.specs.declared.op.BranchSumOp.{BranchSumOp}
use Rattle.lg_op.specs.declared.op.Condition.{Condition}
use Rattle.lg_op.specs.declared.op.ControlOp.{ControlOp}
use Rattle.lg_op.specs.declared.op.ControlOp.TheVariants as control
use Rattle.lg_op.specs.declared.op.LastOperand.{LastOperand}
use Rattle.lg_op.specs.declared.op.LastOperand.TheVariants as last_operand
use Rattle.lg_op.specs.declared.op.PlainOp.{PlainOp}
use Rattle.lg_op.specs.declared.op.PlainOp.TheVariants as plain
use Rattle.lg_op.specs.declared.operand.Label.{Label}
use Rattle.lg_op.specs.declared.operand.Operand.{Operand}
use Rattle.lg_op.specs.declared.operand.Operand.TheVariants as operand
use Rattle.lg_rv.specs.Spelling.{IsInstr}
use Rattle.lg_rv.specs.declared.instruction.BranchOp.{BranchOp}
use Rattle.lg_rv.specs.declared.instruction.Instr.{Instr}
use Rattle.lg_rv.specs.declared.instruction.Instr.TheVariants as instr
use Rattle.lg_rv.specs.declared.instruction.ImmOp.TheVariants.{Addi}
use Rattle.lg_temp.specs.Abis.{register_of}
use Rattle.lg_carry.specs.Passages.{IsNodeCode}
use Rattle.lg_selr_values.specs.Processor.Numbers.{number_code}
use Rattle.lg_selr_values.specs.Processor.RvComputers.{rv_scratch}
use Rattle.lg_selr_values.specs.Processor.RvRows.{rv_rows}
use Rattle.lg_sel.specs.Control.Control.{control_code, branch_of, sum_branch_of, leap_of, jump_of, call_of, return_of, returned_of, plain_of, align_of}
use Rattle.lg_sel.specs.Control.Control as target_control
use Rattle.lg_sel.specs.Control.Returns.{OfLabel}
use Rattle.lg_sel.proofs.OfControl.ControlLemmas as target_lemmas
use Rattle.lg_selr_values.specs.Items.{bytes_in, settled, ones}
use Rattle.lg_selr_values.proofs.ItemLemmas.{settled-append, settled-ones, words-ones, ones-append}
use Rattle.lg_sel.specs.declared.reach.Reach.{Reach}
use Rattle.lg_sel.specs.declared.reach.Reach.TheVariants.{Short}
use Rattle.lg_selr.specs.Control.Alignments.{align_code}
use Rattle.lg_selr.specs.Control.Calls.{call_code}
use Rattle.lg_selr.specs.Control.Jumps.{jump_code}
use Rattle.lg_selr.specs.Control.Branches.{failing, left_of, right_of, bits_code}
use Rattle.lg_selr.specs.Control.ControlItems.{second_register, second_items, jump_unless_items, branch_items, sum_items, label_items, jump_items, call_items}
use Rattle.lg_selr.specs.Control.ControlItems.{register_leap_items, leap_items, ret_items, result_items, align_items, plain_items, control_items}
use Rattle.lg_selr.specs.Control.ControlLaws.{ControlNodesCarry}
use Rattle.lg_selr.specs.Control.HostCalls.{rv_ready}
use Rattle.lg_selr.specs.Control.Prologs.{prolog_code}
use Rattle.lg_selr.specs.Control.Returns.{return_code, result_code}
use Rattle.lg_selr.specs.Control.SumBranches.{sum_code, staying}
use Rattle.lg_selr.specs.Control.Targets.{rv_control}
use Rattle.lg_selr.specs.Control.TwoWays.{leads_unless, branch_after, second_code}
use Rattle.lg_selr.proofs.OfControl.TargetLemmas.{is-target, has-places}

-- ---- the instructions of items
-- what leads to a label unless a branch is taken
leads-settled : (r : Reach) (to : ℕ → ℕ) (at : ℕ) (o : BranchOp) (a b : ℕ) (l : Label) → settled to at (jump_unless_items r o a b l) ≡ leads_unless r o a b at (to l.0)
leads-settled Short to at o a b l = refl
leads-settled t to at o a b l = refl

-- it is after two lists of instructions
pub unless-settled : (r : Reach) (to : ℕ → ℕ) (at : ℕ) (xs ys : List Instr) (o : BranchOp) (a b : ℕ) (l : Label)
    → settled to at (ones xs ++ (ones ys ++ jump_unless_items r o a b l)) ≡ branch_after r (xs ++ ys) o a b at (to l.0)
unless-settled r to at xs ys o a b l =
    let rest = jump_unless_items r o a b l in
    let front = xs ++ ys in
    let joined : ones xs ++ (ones ys ++ rest) ≡ ones front ++ rest =
    sym (append_assoc (ones xs) (ones ys) rest) ∙ ap (λ z. z ++ rest) (sym (ones-append xs ys)) in
    let size = words-ones front in
    let place : at + bytes_in (ones front) ≡ at + 4 * length front = omega (arith, size) in
    ap (settled to at) joined ∙ settled-append to at (ones front) rest ∙ ap (λ z. z ++ settled to (at + bytes_in (ones front)) rest) (settled-ones to at front)
    ∙ ap (λ p. front ++ settled to p rest) place ∙ ap (λ z. front ++ z) (leads-settled r to (at + 4 * length front) o a b l)

-- instructions, and then others
ones-settled : (to : ℕ → ℕ) (at : ℕ) (xs ys : List Instr) → settled to at (ones xs ++ ones ys) ≡ xs ++ ys
ones-settled to at xs ys = ap (settled to at) (sym (ones-append xs ys)) ∙ settled-ones to at (xs ++ ys)

-- ---- the items of a node are its code
pub second-is : (x : Operand) → second_items x ≡ ones (second_code x)
second-is (operand.Reg b) = refl
second-is (operand.Number v) = by (v == 0)
  where
    by : (b : Bool) → (if b then [] else ones (number_code 1 v)) ≡ ones (if b then [] else number_code 1 v)
    by true = refl
    by false = refl
second-is (operand.Host name) = refl
second-is x = refl

labels-jump : (r : Reach) (to : ℕ → ℕ) (at : ℕ) (l : Label) → settled to at (label_items r 0 31 l) ≡ jump_code r at (to l.0)
labels-jump Short to at l = refl
labels-jump o to at l = refl

labels-call : (r : Reach) (to : ℕ → ℕ) (at : ℕ) (l : Label) → settled to at (label_items r 1 1 l) ≡ call_code r at (to l.0)
labels-call Short to at l = refl
labels-call o to at l = refl

module _ (r : Reach) (to : ℕ → ℕ) (frame homes saved at : ℕ) where
  branches : (o : Condition) (xs : List Operand) → settled to at (branch_items r o xs) ≡ branch_of (rv_control saved r) to frame at o xs
  branches o (operand.Label l ∷ operand.Reg a ∷ x ∷ []) =
      let ra : ℕ = register_of Riscv64 a in let b : ℕ = second_register x in
      ap (λ ys. settled to at (ys ++ (ones (bits_code o ra b) ++ jump_unless_items r (failing o) (left_of o ra b) (right_of o ra b) l))) (second-is x)
      ∙ unless-settled r to at (second_code x) (bits_code o ra b) (failing o) (left_of o ra b) (right_of o ra b) l
  branches o xs = refl

  sum-branches : (o : BranchSumOp) (xs : List Operand) → settled to at (sum_items r o xs) ≡ sum_branch_of (rv_control saved r) to frame at o xs
  sum-branches o (operand.Label l ∷ operand.Reg a ∷ x ∷ []) =
      let body : List Instr = sum_code o (register_of Riscv64 a) (second_register x) in
      ap (λ ys. settled to at (ys ++ (ones body ++ jump_unless_items r (staying o) 31 0 l))) (second-is x)
      ∙ unless-settled r to at (second_code x) body (staying o) 31 0 l
  sum-branches o xs = refl

  jumps : (xs : List Operand) → settled to at (jump_items r xs) ≡ jump_of (rv_control saved r) to at xs
  jumps (operand.Label l ∷ []) = labels-jump r to at l
  jumps xs = refl

  calls : (xs : List Operand) → settled to at (call_items r xs) ≡ call_of (rv_control saved r) to at xs
  calls (operand.Label l ∷ []) = labels-call r to at l
  calls (operand.Host name ∷ []) = refl
  calls xs = refl

  register-jumps : (xs : List Operand) → settled to at (register_leap_items 0 xs) ≡ target_control.register_leap_of (rv_control saved r).register_jump frame xs
  register-jumps (operand.Reg a ∷ []) = refl
  register-jumps xs = refl

  register-calls : (xs : List Operand) → settled to at (register_leap_items 1 xs) ≡ target_control.register_leap_of (rv_control saved r).register_call frame xs
  register-calls (operand.Reg a ∷ []) = refl
  register-calls xs = refl

  result : (x : Operand) → settled to at (result_items x ++ ones (return_code saved frame)) ≡ (rv_control saved r).ret frame (returned_of to x)
  result (operand.Reg a) = ones-settled to at (instr.Imm Addi 10 (register_of Riscv64 a) (pos 0) ∷ []) (return_code saved frame)
  result (operand.Number v) = ones-settled to at (number_code 10 v) (return_code saved frame)
  result (operand.Host name) = ones-settled to at (number_code 10 (host_address name)) (return_code saved frame)
  result (operand.Label l) = ap (λ is. result_code (OfLabel (to l.0)) ++ is) (settled-ones to (at + 8) (return_code saved frame))
  result (operand.Slot k) = settled-ones to at (return_code saved frame)

  returns : (xs : List Operand) → settled to at (ret_items frame saved xs) ≡ return_of (rv_control saved r) to frame xs
  returns (x ∷ []) = result x
  returns xs = refl

  leaps : (o : ControlOp) (last : LastOperand) (xs : List Operand) → settled to at (leap_items r frame saved o last xs) ≡ leap_of (rv_control saved r) to frame at o last xs
  leaps control.Jmp last_operand.Immediate xs = jumps xs
  leaps control.Jmp last_operand.Register xs = register-jumps xs
  leaps control.Call last_operand.Immediate xs = calls xs
  leaps control.Call last_operand.Register xs = register-calls xs
  leaps control.Finish last_operand.Immediate xs = calls xs
  leaps control.Finish last_operand.Register xs = register-calls xs
  leaps control.Ret last xs = returns xs
  leaps o last xs = refl

  alignments : (xs : List Operand) → settled to at (align_items at xs) ≡ align_of (rv_control saved r) at xs
  alignments (operand.Number n ∷ []) = settled-ones to at (align_code at n)
  alignments xs = refl

  plains : (o : PlainOp) (xs : List Operand) → settled to at (plain_items o xs frame homes saved at) ≡ plain_of (rv_control saved r) frame homes at o xs
  plains plain.Prolog xs = settled-ones to at (prolog_code saved frame homes)
  plains plain.Epilog xs = settled-ones to at (return_code saved frame)
  plains plain.Ret xs = settled-ones to at (return_code saved frame)
  plains plain.Align xs = alignments xs
  plains o xs = refl

  items-are-code : (o : Op) (xs : List Operand) → settled to at (control_items r o xs frame homes saved at) ≡ control_code (rv_control saved r) to frame homes at o xs
  items-are-code (op.Branch o last) xs = branches o xs
  items-are-code (op.BranchSum o last) xs = sum-branches o xs
  items-are-code (op.Control o last) xs = leaps o last xs
  items-are-code (op.Plain o) xs = plains o xs
  items-are-code o xs = refl

pub control-nodes-carry : ControlNodesCarry
control-nodes-carry r code trash c i n frame homes saved S h w v e is-frame is-homes is-saved t k =
    let same = items-are-code r (slice_index c.addresses) frame homes saved (c.place i) n.op n.operands in
    target_lemmas.control-nodes-carry (rv_rows code trash) rv_scratch IsInstr rv_ready saved (rv_control saved r) (is-target saved r code trash k.small k.bytes k.word) c i n frame homes S h
    (has-places code trash c w) v e is-frame is-homes is-saved t (subst (IsNodeCode (rv_rows code trash) IsInstr c i) same k.node)
