-- The nodes that branch, jump, call and return, `prolog`, `.align` and those without code are carried by their items.
use Rattle.std.proofs.Common.{◌≡◌, ℕ, ◌+◌, List, [], ◌∷◌, ◌++◌, refl, ap, ◌∙◌, subst, length}
use Rattle.std.specs.Prelude.{slice_index}
use Rattle.lg_op.specs.declared.op.Op.{Op}
use Rattle.lg_op.specs.declared.op.Op.TheVariants as op
use Rattle.lg_op.specs.declared.op.BranchSumOp.{BranchSumOp}
use Rattle.lg_op.specs.declared.op.Condition.{Condition}
use Rattle.lg_op.specs.declared.op.ControlOp.{ControlOp}
use Rattle.lg_op.specs.declared.op.ControlOp.TheVariants as control
use Rattle.lg_op.specs.declared.op.LastOperand.{LastOperand}
use Rattle.lg_op.specs.declared.op.LastOperand.TheVariants as last_operand
use Rattle.lg_op.specs.declared.op.PlainOp.{PlainOp}
use Rattle.lg_op.specs.declared.op.PlainOp.TheVariants as plain
use Rattle.lg_op.specs.declared.operand.Label.{Label}
use Rattle.lg_op.specs.declared.operand.Operand.{Operand}
use Rattle.lg_op.specs.declared.operand.Operand.TheVariants as operand
use Rattle.lg_x86.specs.Spelling.{spelling, IsInstr}
use Rattle.lg_x86.specs.declared.instruction.Cond.{Cond}
use Rattle.lg_x86.specs.declared.instruction.Instr.{Instr}
use Rattle.lg_carry.specs.Blocks.{spellings}
use Rattle.lg_carry.specs.Passages.{IsNodeCode}
use Rattle.lg_selx_values.specs.Processor.X86Computers.{x86_scratch}
use Rattle.lg_selx_values.specs.Processor.X86Rows.{x86_rows}
use Rattle.lg_sel.specs.Control.Control.{Codes, control_code, branch_of, sum_branch_of, leap_of, jump_of, call_of, return_of, returned_of, plain_of, align_of}
use Rattle.lg_sel.specs.Control.Control as target_control
use Rattle.lg_sel.proofs.OfControl.ControlLemmas as target_lemmas
use Rattle.lg_selx_values.specs.declared.items.Item.{Item}
use Rattle.lg_selx_values.specs.declared.items.Item.TheVariants.{Jump}
use Rattle.lg_selx_values.specs.Items.{blanks, settled, ones}
use Rattle.lg_selx_values.proofs.ItemLemmas.{settled-append, settled-ones}
use Rattle.lg_sel.specs.declared.reach.Reach.{Reach}
use Rattle.lg_sel.specs.declared.reach.Reach.TheVariants.{Short}
use Rattle.lg_selx.specs.Control.Alignments.{align_code}
use Rattle.lg_selx.specs.Control.Branches.{before_branch, taken}
use Rattle.lg_selx.specs.Control.ControlItems.{jump_kind, branch_if_items, branch_items, sum_items, jump_items, call_items}
use Rattle.lg_selx.specs.Control.Jumps.{jump_code}
use Rattle.lg_selx.specs.Control.ControlItems.{register_jump_items, register_call_items, leap_items, ret_items, result_items, align_items, plain_items, control_items}
use Rattle.lg_selx.specs.Control.ControlLaws.{ControlNodesCarry}
use Rattle.lg_selx.specs.Control.HostCalls.{host_code, x86_ready}
use Rattle.lg_selx.specs.Control.Prologs.{prolog_code}
use Rattle.lg_selx.specs.Control.RegisterLeaps.{register_call_code}
use Rattle.lg_sel.specs.Control.Returns.{OfRegister, OfNumber, OfLabel}
use Rattle.lg_base.specs.HostNames.{host_address}
use Rattle.lg_selx.specs.Control.Returns.{result_code, return_code}
use Rattle.lg_selx.specs.Control.SumBranches.{before_sum_branch, sum_taken}
use Rattle.lg_selx.specs.Control.Targets.{x86_control}
use Rattle.lg_selx.specs.Control.TwoWays.{jump_if, branch_if}
use Rattle.lg_op.specs.declared.operand.Reg.TheVariants.{R0}
use Rattle.lg_selx.proofs.OfControl.TargetLemmas.{is-target, has-places}

-- ---- the instructions of items
-- as many bytes as are spelled
pub blanks-ones : (is : List Instr) → blanks (ones is) ≡ spellings spelling is
blanks-ones [] = refl
blanks-ones (i ∷ is) = ap (λ z. spelling i ++ z) (blanks-ones is)

jump-settled : (r : Reach) (to : ℕ → ℕ) (at : ℕ) (c : Cond) (l : Label) → settled to at (Jump (jump_kind r c) l.0 ∷ []) ≡ jump_if r c at (to l.0) ∷ []
jump-settled Short to at c l = refl
jump-settled o to at c l = refl

-- a jump after instructions
pub branch-settled : (r : Reach) (to : ℕ → ℕ) (at : ℕ) (front : List Instr) (c : Cond) (l : Label) → settled to at (branch_if_items r front c l) ≡ branch_if r front c at (to l.0)
branch-settled r to at front c l =
    let last : List Item = Jump (jump_kind r c) l.0 ∷ [] in
    settled-append to at (ones front) last ∙ ap (λ z. z ++ settled to (at + length (blanks (ones front))) last) (settled-ones to at front)
    ∙ ap (λ b. front ++ settled to (at + length b) last) (blanks-ones front) ∙ ap (λ z. front ++ z) (jump-settled r to (at + length (spellings spelling front)) c l)

jump-settled-plain : (r : Reach) (to : ℕ → ℕ) (at : ℕ) (l : Label) → settled to at (jump_items r (operand.Label l ∷ [])) ≡ jump_code r at (to l.0)
jump-settled-plain Short to at l = refl
jump-settled-plain o to at l = refl

-- ---- the items of a node are its code
module _ (r : Reach) (saved : ℕ) (to : ℕ → ℕ) (frame homes at : ℕ) where
  abbrev C : Codes Instr
  C = x86_control r saved

  branches : (o : Condition) (xs : List Operand) → settled to at (branch_items r frame o xs) ≡ branch_of C to frame at o xs
  branches o (operand.Label l ∷ operand.Reg a ∷ x ∷ []) = branch-settled r to at (before_branch frame o a x) (taken o) l
  branches o xs = refl

  sum-branches : (o : BranchSumOp) (xs : List Operand) → settled to at (sum_items r frame o xs) ≡ sum_branch_of C to frame at o xs
  sum-branches o (operand.Label l ∷ operand.Reg a ∷ x ∷ []) = branch-settled r to at (before_sum_branch frame o a x) (sum_taken o) l
  sum-branches o xs = refl

  jumps : (xs : List Operand) → settled to at (jump_items r xs) ≡ jump_of C to at xs
  jumps (operand.Label l ∷ []) = jump-settled-plain r to at l
  jumps xs = refl

  calls : (xs : List Operand) → settled to at (call_items xs) ≡ call_of C to at xs
  calls (operand.Label l ∷ []) = refl
  calls (operand.Host name ∷ []) = settled-ones to at (host_code name)
  calls xs = refl

  register-jumps : (xs : List Operand) → settled to at (register_jump_items xs) ≡ target_control.register_leap_of C.register_jump frame xs
  register-jumps (operand.Reg a ∷ []) = refl
  register-jumps xs = refl

  register-calls : (xs : List Operand) → settled to at (register_call_items xs) ≡ target_control.register_leap_of C.register_call frame xs
  register-calls (operand.Reg a ∷ []) = settled-ones to at (register_call_code frame a)
  register-calls xs = refl

  -- a return after items that become this code
  returns-after : (xs : List Item) (is : List Instr) → settled to at xs ≡ is → settled to at (xs ++ ones (return_code saved)) ≡ is ++ return_code saved
  returns-after xs is e =
      settled-append to at xs (ones (return_code saved)) ∙ ap (λ z. z ++ settled to (at + length (blanks xs)) (ones (return_code saved))) e
      ∙ ap (λ z. is ++ z) (settled-ones to (at + length (blanks xs)) (return_code saved))

  results : (x : Operand) → settled to at (result_items x ++ ones (return_code saved)) ≡ C.ret frame (returned_of to x)
  results (operand.Reg R0) = returns-after [] [] refl
  results (operand.Reg a) = returns-after (result_items (operand.Reg a)) (result_code (OfRegister a)) refl
  results (operand.Number v) = returns-after (result_items (operand.Number v)) (result_code (OfNumber v)) refl
  results (operand.Host name) = returns-after (result_items (operand.Host name)) (result_code (OfNumber (host_address name))) refl
  results (operand.Label l) = returns-after (result_items (operand.Label l)) (result_code (OfLabel (to l.0))) refl
  results (operand.Slot k) = returns-after [] [] refl

  returns : (xs : List Operand) → settled to at (ret_items saved xs) ≡ return_of C to frame xs
  returns (x ∷ []) = results x
  returns xs = refl

  leaps : (o : ControlOp) (last : LastOperand) (xs : List Operand) → settled to at (leap_items r saved o last xs) ≡ leap_of C to frame at o last xs
  leaps control.Jmp last_operand.Immediate xs = jumps xs
  leaps control.Jmp last_operand.Register xs = register-jumps xs
  leaps control.Call last_operand.Immediate xs = calls xs
  leaps control.Call last_operand.Register xs = register-calls xs
  leaps control.Finish last_operand.Immediate xs = calls xs
  leaps control.Finish last_operand.Register xs = register-calls xs
  leaps control.Ret last xs = returns xs
  leaps o last xs = refl

  alignments : (xs : List Operand) → settled to at (align_items at xs) ≡ align_of C at xs
  alignments (operand.Number n ∷ []) = settled-ones to at (align_code at n)
  alignments xs = refl

  plains : (o : PlainOp) (xs : List Operand) → settled to at (plain_items o xs frame homes saved at) ≡ plain_of C frame homes at o xs
  plains plain.Prolog xs = settled-ones to at (prolog_code saved frame homes)
  plains plain.Epilog xs = settled-ones to at (return_code saved)
  plains plain.Ret xs = settled-ones to at (return_code saved)
  plains plain.Align xs = alignments xs
  plains o xs = refl

  items-are-code : (o : Op) (xs : List Operand) → settled to at (control_items r o xs frame homes saved at) ≡ control_code C to frame homes at o xs
  items-are-code (op.Branch o last) xs = branches o xs
  items-are-code (op.BranchSum o last) xs = sum-branches o xs
  items-are-code (op.Control o last) xs = leaps o last xs
  items-are-code (op.Plain o) xs = plains o xs
  items-are-code o xs = refl

pub control-nodes-carry : ControlNodesCarry
control-nodes-carry r code trash c i n frame homes saved S h w v e is-frame is-homes is-saved t k =
    let same = items-are-code r saved (slice_index c.addresses) frame homes (c.place i) n.op n.operands in
    target_lemmas.control-nodes-carry (x86_rows code trash) x86_scratch IsInstr x86_ready saved (x86_control r saved)
    (is-target r saved code trash k.small k.bytes k.word) c i n frame homes S h (has-places code trash c w) v e is-frame is-homes is-saved t (subst (IsNodeCode (x86_rows code trash) IsInstr c i) same k.node)
