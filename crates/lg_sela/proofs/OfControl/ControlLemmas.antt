-- The nodes that branch, jump, call and return, `prolog`, `.align` and those without code are carried by their items.
use Rattle.std.proofs.Common.{◌≡◌, ℕ, ◌+◌, ◌*◌, Bool, true, false, List, [], ◌∷◌, ◌++◌, refl, sym, ap, ◌∙◌, subst, arith, length, append_assoc}
use Rattle.std.specs.Prelude.{if◌then◌else◌, slice_index}
use Rattle.lg_base.specs.HostNames.{host_address}
use Rattle.lg_base.specs.declared.target.Target.TheVariants.{Aarch64}
use Rattle.lg_op.specs.declared.op.Op.{Op}
use Rattle.lg_op.specs.declared.op.Op.TheVariants as op
use Rattle.lg_op.specs.declared.op.BranchSumOp.{BranchSumOp}
use Rattle.lg_op.specs.declared.op.Condition.{Condition}
use Rattle.lg_op.specs.declared.op.ControlOp.{ControlOp}
use Rattle.lg_op.specs.declared.op.ControlOp.TheVariants as control
use Rattle.lg_op.specs.declared.op.LastOperand.{LastOperand}
use Rattle.lg_op.specs.declared.op.LastOperand.TheVariants as last_operand
use Rattle.lg_op.specs.declared.op.PlainOp.{PlainOp}
use Rattle.lg_op.specs.declared.op.PlainOp.TheVariants as plain
use Rattle.lg_op.specs.declared.operand.Label.{Label}
use Rattle.lg_op.specs.declared.operand.Operand.{Operand}
use Rattle.lg_op.specs.declared.operand.Operand.TheVariants as operand
use Rattle.lg_a64.specs.Spelling.{IsInstr}
use Rattle.lg_a64.specs.declared.instruction.BranchRegOp.TheVariants.{Br, Blr}
use Rattle.lg_a64.specs.declared.instruction.Cond.{Cond}
use Rattle.lg_a64.specs.declared.instruction.Instr.{Instr}
use Rattle.lg_a64.specs.declared.instruction.Instr.TheVariants as instr
use Rattle.lg_a64.specs.declared.instruction.RegOp.TheVariants.{Orr}
use Rattle.lg_temp.specs.Abis.{register_of}
use Rattle.lg_carry.specs.Passages.{IsNodeCode}
use Rattle.lg_sela_values.specs.Processor.A64Computers.{a64_scratch}
use Rattle.lg_sela_values.specs.Processor.A64Rows.{a64_rows, link, zero_register}
use Rattle.lg_sela_values.specs.Processor.Numbers.{number_code}
use Rattle.lg_sel.specs.Control.Control.{control_code, branch_of, sum_branch_of, leap_of, jump_of, call_of, return_of, returned_of, plain_of, align_of}
use Rattle.lg_sel.specs.Control.Control as target_control
use Rattle.lg_sel.specs.Control.Returns.{OfLabel}
use Rattle.lg_sel.proofs.OfControl.ControlLemmas as target_lemmas
use Rattle.lg_sela_values.specs.declared.items.Item.{Item}
use Rattle.lg_sela_values.specs.Items.{bytes_in, settled, ones}
use Rattle.lg_sela_values.proofs.ItemLemmas.{settled-append, settled-ones, words-ones, ones-append}
use Rattle.lg_sel.specs.declared.reach.Reach.{Reach}
use Rattle.lg_sel.specs.declared.reach.Reach.TheVariants.{Short}
use Rattle.lg_sela.specs.Control.Alignments.{align_code}
use Rattle.lg_sela.specs.Control.Branches.{is_held, taken}
use Rattle.lg_sela.specs.Control.ControlItems.{second_register, second_items, compared_items, comparing, leads_items, branch_if_items, branch_items, sum_items, jump_items, call_items}
use Rattle.lg_sela.specs.Control.ControlItems.{register_leap_items, leap_items, ret_items, result_items, align_items, plain_items, control_items}
use Rattle.lg_sela.specs.Control.ControlLaws.{ControlNodesCarry}
use Rattle.lg_sela.specs.Control.HostCalls.{a64_ready}
use Rattle.lg_sela.specs.Control.Prologs.{prolog_code}
use Rattle.lg_sela.specs.Control.Returns.{result, result_code, return_code}
use Rattle.lg_sela.specs.Control.SumBranches.{sum_instruction, sum_taken}
use Rattle.lg_sela.specs.Control.Targets.{a64_control}
use Rattle.lg_sela.specs.Control.TwoWays.{leads_if, branch_if, second_code, compared_code}
use Rattle.lg_sela.proofs.OfControl.TargetLemmas.{is-target, has-places}

-- ---- the instructions of items
-- what leads to a label where a condition holds
leads-settled : (r : Reach) (to : ℕ → ℕ) (at : ℕ) (c : Cond) (l : Label) → settled to at (leads_items r c l) ≡ leads_if r c at (to l.0)
leads-settled Short to at c l = refl
leads-settled o to at c l = refl

-- it is after instructions and one that sets the flags
pub branch-settled : (r : Reach) (to : ℕ → ℕ) (at : ℕ) (xs : List Instr) (sets : Instr) (c : Cond) (l : Label)
    → settled to at (ones xs ++ branch_if_items r sets c l) ≡ branch_if r (xs ++ (sets ∷ [])) c at (to l.0)
branch-settled r to at xs sets c l =
    let front = xs ++ (sets ∷ []) in
    let rest = branch_if_items r sets c l in
    let last : List Item = leads_items r c l in
    let joined : ones xs ++ rest ≡ ones front ++ last = sym (append_assoc (ones xs) (ones (sets ∷ [])) last) ∙ ap (λ z. z ++ last) (sym (ones-append xs (sets ∷ []))) in
    let size = words-ones front in
    let place : at + bytes_in (ones front) ≡ at + 4 * length front = omega (arith, size) in
    ap (settled to at) joined ∙ settled-append to at (ones front) last ∙ ap (λ z. z ++ settled to (at + bytes_in (ones front)) last) (settled-ones to at front)
    ∙ ap (λ p. front ++ settled to p last) place ∙ ap (λ z. front ++ z) (leads-settled r to (at + 4 * length front) c l)

-- instructions, and then others
ones-settled : (to : ℕ → ℕ) (at : ℕ) (xs ys : List Instr) → settled to at (ones xs ++ ones ys) ≡ xs ++ ys
ones-settled to at xs ys = ap (settled to at) (sym (ones-append xs ys)) ∙ settled-ones to at (xs ++ ys)

-- ---- the items of a node are its code
pub second-is : (x : Operand) → second_items x ≡ ones (second_code x)
second-is (operand.Reg b) = refl
second-is x = refl

pub compared-is : (o : Condition) (x : Operand) → compared_items o x ≡ ones (compared_code o x)
compared-is o (operand.Reg b) = refl
compared-is o (operand.Number v) = by (is_held o v)
  where
    by : (b : Bool) → (if b then [] else ones (number_code link v)) ≡ ones (if b then [] else number_code link v)
    by true = refl
    by false = refl
compared-is o (operand.Host name) = refl
compared-is o x = refl

module _ (r : Reach) (to : ℕ → ℕ) (frame homes saved at : ℕ) where
  branches : (o : Condition) (xs : List Operand) → settled to at (branch_items r o xs) ≡ branch_of (a64_control saved r) to frame at o xs
  branches o (operand.Label l ∷ operand.Reg a ∷ x ∷ []) =
      let sets : Instr = comparing o (register_of Aarch64 a) x in
      ap (λ ys. settled to at (ys ++ branch_if_items r sets (taken o) l)) (compared-is o x) ∙ branch-settled r to at (compared_code o x) sets (taken o) l
  branches o xs = refl

  sum-branches : (o : BranchSumOp) (xs : List Operand) → settled to at (sum_items r o xs) ≡ sum_branch_of (a64_control saved r) to frame at o xs
  sum-branches o (operand.Label l ∷ operand.Reg a ∷ x ∷ []) =
      let sets : Instr = sum_instruction o (register_of Aarch64 a) (second_register x) in
      ap (λ ys. settled to at (ys ++ branch_if_items r sets (sum_taken o) l)) (second-is x) ∙ branch-settled r to at (second_code x) sets (sum_taken o) l
  sum-branches o xs = refl

  jumps : (xs : List Operand) → settled to at (jump_items xs) ≡ jump_of (a64_control saved r) to at xs
  jumps (operand.Label l ∷ []) = refl
  jumps xs = refl

  calls : (xs : List Operand) → settled to at (call_items xs) ≡ call_of (a64_control saved r) to at xs
  calls (operand.Label l ∷ []) = refl
  calls (operand.Host name ∷ []) = ones-settled to at (number_code link (host_address name)) (instr.BranchReg Blr link ∷ [])
  calls xs = refl

  register-jumps : (xs : List Operand) → settled to at (register_leap_items Br xs) ≡ target_control.register_leap_of (a64_control saved r).register_jump frame xs
  register-jumps (operand.Reg a ∷ []) = refl
  register-jumps xs = refl

  register-calls : (xs : List Operand) → settled to at (register_leap_items Blr xs) ≡ target_control.register_leap_of (a64_control saved r).register_call frame xs
  register-calls (operand.Reg a ∷ []) = refl
  register-calls xs = refl

  results : (x : Operand) → settled to at (result_items x ++ ones (return_code saved frame)) ≡ (a64_control saved r).ret frame (returned_of to x)
  results (operand.Reg a) = ones-settled to at (instr.Reg Orr result zero_register (register_of Aarch64 a) ∷ []) (return_code saved frame)
  results (operand.Number v) = ones-settled to at (number_code result v) (return_code saved frame)
  results (operand.Host name) = ones-settled to at (number_code result (host_address name)) (return_code saved frame)
  results (operand.Label l) = ap (λ is. result_code (OfLabel (to l.0)) ++ is) (settled-ones to (at + 8) (return_code saved frame))
  results (operand.Slot k) = settled-ones to at (return_code saved frame)

  returns : (xs : List Operand) → settled to at (ret_items frame saved xs) ≡ return_of (a64_control saved r) to frame xs
  returns (x ∷ []) = results x
  returns xs = refl

  leaps : (o : ControlOp) (last : LastOperand) (xs : List Operand) → settled to at (leap_items frame saved o last xs) ≡ leap_of (a64_control saved r) to frame at o last xs
  leaps control.Jmp last_operand.Immediate xs = jumps xs
  leaps control.Jmp last_operand.Register xs = register-jumps xs
  leaps control.Call last_operand.Immediate xs = calls xs
  leaps control.Call last_operand.Register xs = register-calls xs
  leaps control.Finish last_operand.Immediate xs = calls xs
  leaps control.Finish last_operand.Register xs = register-calls xs
  leaps control.Ret last xs = returns xs
  leaps o last xs = refl

  alignments : (xs : List Operand) → settled to at (align_items at xs) ≡ align_of (a64_control saved r) at xs
  alignments (operand.Number n ∷ []) = settled-ones to at (align_code at n)
  alignments xs = refl

  plains : (o : PlainOp) (xs : List Operand) → settled to at (plain_items o xs frame homes saved at) ≡ plain_of (a64_control saved r) frame homes at o xs
  plains plain.Prolog xs = settled-ones to at (prolog_code saved frame homes)
  plains plain.Epilog xs = settled-ones to at (return_code saved frame)
  plains plain.Ret xs = settled-ones to at (return_code saved frame)
  plains plain.Align xs = alignments xs
  plains o xs = refl

  items-are-code : (o : Op) (xs : List Operand) → settled to at (control_items r o xs frame homes saved at) ≡ control_code (a64_control saved r) to frame homes at o xs
  items-are-code (op.Branch o last) xs = branches o xs
  items-are-code (op.BranchSum o last) xs = sum-branches o xs
  items-are-code (op.Control o last) xs = leaps o last xs
  items-are-code (op.Plain o) xs = plains o xs
  items-are-code o xs = refl

pub control-nodes-carry : ControlNodesCarry
control-nodes-carry r code trash c i n frame homes saved S h w v e is-frame is-homes is-saved t k =
    let same = items-are-code r (slice_index c.addresses) frame homes saved (c.place i) n.op n.operands in
    target_lemmas.control-nodes-carry (a64_rows code trash) a64_scratch IsInstr a64_ready saved (a64_control saved r) (is-target saved r code trash k.small k.bytes k.word) c i n frame homes S h
    (has-places code trash c w) v e is-frame is-homes is-saved t (subst (IsNodeCode (a64_rows code trash) IsInstr c i) same k.node)
