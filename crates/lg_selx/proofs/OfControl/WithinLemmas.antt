-- No item of a node that branches, jumps, calls or returns, of `prolog` or `.align` writes a register that is outside of the conventions.
use Rattle.std.proofs.Common.{ℕ, zero, suc, List, [], ◌∷◌, Option, Some, None, Bool, refl, true, false}
use Rattle.std.specs.Prelude.{true, false, ◌==◌, ◌&&◌, ◌%◌, ◌^◌, nat_lt, pos, if◌then◌else◌}
use Rattle.lg_x86.specs.declared.instruction.Cond.{Cond}
use Rattle.lg_sel.specs.declared.reach.Reach.TheVariants.{Short, Near, Far}
use Rattle.lg_selx_values.specs.declared.items.Item.TheVariants.{Jump}
use Rattle.lg_carry.specs.Outside.{moves_stack}
use Rattle.lg_base.specs.HostNames.{host_address}
use Rattle.lg_base.specs.Words.{signed_view, is_half}
use Rattle.lg_base.specs.declared.target.Target.TheVariants.{X86_64}
use Rattle.lg_op.specs.declared.op.BranchSumOp.{BranchSumOp}
use Rattle.lg_op.specs.declared.op.Condition.{Condition}
use Rattle.lg_op.specs.declared.op.ControlOp.{ControlOp}
use Rattle.lg_op.specs.declared.op.ControlOp.TheVariants as control
use Rattle.lg_op.specs.declared.op.LastOperand.{LastOperand}
use Rattle.lg_op.specs.declared.op.LastOperand.TheVariants as last_operand
use Rattle.lg_op.specs.declared.op.Op.{Op}
use Rattle.lg_op.specs.declared.op.Op.TheVariants as op
use Rattle.lg_op.specs.declared.op.PlainOp.{PlainOp}
use Rattle.lg_op.specs.declared.op.PlainOp.TheVariants as plain
use Rattle.lg_op.specs.declared.operand.Operand.{Operand}
use Rattle.lg_op.specs.declared.operand.Operand.TheVariants as operand
use Rattle.lg_op.specs.declared.operand.Reg.{Reg}
use Rattle.lg_x86.specs.declared.instruction.BareOp.TheVariants.{Ret}
use Rattle.lg_x86.specs.declared.instruction.ImmOp.TheVariants.{Andi, Cmpi}
use Rattle.lg_x86.specs.declared.instruction.Instr.TheVariants as instr
use Rattle.lg_op.specs.declared.operand.Reg.TheVariants.{R0}
use Rattle.lg_temp.specs.Abis.{register_of}
use Rattle.lg_selx_values.specs.Processor.Destinations.{WritesWithin}
use Rattle.lg_selx_values.specs.Processor.Numbers.{number_row}
use Rattle.lg_selx_values.specs.Items.{ones, StayWithin, StaysWithin}
use Rattle.lg_selx_values.proofs.WithinLemmas.{In, portable, Within, stay-append, stay-ones, Moving, moving-join, moving-append, moving-ones, items-moving}
use Rattle.lg_selx_values.specs.Scratch.{again}
use Rattle.lg_sel.specs.declared.reach.Reach.{Reach}
use Rattle.lg_selx.specs.Control.Alignments.{padding, idle, align_code}
use Rattle.lg_selx.specs.Control.Branches.{comparison, is_difference, far_number, pointer_comparison, wide_comparison, word_comparison, before_branch, taken}
use Rattle.lg_selx.specs.Control.ControlFits.{ControlItemsStay}
use Rattle.lg_selx.specs.Control.ControlItems.{branch_items, sum_items, jump_items, call_items, result_items, ret_items, jump_kind}
use Rattle.lg_selx.specs.Control.ControlItems.{register_jump_items, register_call_items, leap_items, align_items, plain_items, control_items}
use Rattle.lg_selx.specs.Control.HostCalls.{host_code}
use Rattle.lg_sel.specs.Control.Stores.{kept_registers, home_registers}
use Rattle.lg_selx.specs.Control.Prologs.{stores_below, stored_code, lowered, prolog_code}
use Rattle.lg_selx.specs.Control.Returns.{result, restores, leave_code, restore_code, return_code}
use Rattle.lg_selx.proofs.OfControl.TakenLemmas.{each-taken}
use Rattle.lg_selx.specs.Control.SumBranches.{sum_row, sum_number, number_sum, before_sum_branch, sum_taken}

-- ---- branches, jumps, calls and returns
number : (r v : ℕ) → In r → WritesWithin false (number_row r v)
number r v h = by (nat_lt v (2 ^ 32)) (is_half v)
  where
    by : (b c : Bool) → WritesWithin false (if b then instr.Movi32 r v else if c then instr.Movs32 r (signed_view v) else instr.Movi64 r v)
    by true c = (h, tt)
    by false true = (h, tt)
    by false false = (h, tt)

pointed : (o : Condition) (frame v : ℕ) → Within (pointer_comparison o frame v)
pointed o frame v = by (is_difference o)
  where
    by : (b : Bool) → Within (if b then instr.Imm Cmpi 5 (far_number v) ∷ [] else instr.Imm Andi 5 (pos (v % 2 ^ 30)) ∷ again frame)
    by true = ((refl, tt), tt)
    by false = ((refl, tt), ((refl, tt), tt))

wide : (o : Condition) (frame a v : ℕ) → In a → Within (wide_comparison o frame a v)
wide o frame a v h = by (a == 5)
  where
    by : (b : Bool) → Within (if b then pointer_comparison o frame v else number_row 5 v ∷ (instr.RmReg (comparison o) a 5 ∷ again frame))
    by true = pointed o frame v
    by false = (number 5 v refl, ((h, tt), ((refl, tt), tt)))

compared : (o : Condition) (frame a : ℕ) (x : Option ℕ) → In a → Within (word_comparison o frame a x)
compared o frame a None h = tt
compared o frame a (Some v) h = by (is_difference o && is_half v)
  where
    by : (b : Bool) → Within (if b then instr.Imm Cmpi a (signed_view v) ∷ [] else wide_comparison o frame a v)
    by true = ((h, tt), tt)
    by false = wide o frame a v h

before : (frame : ℕ) (o : Condition) (a : Reg) (x : Operand) → Within (before_branch frame o a x)
before frame o a (operand.Reg b) = ((portable a, tt), tt)
before frame o a (operand.Number v) = compared o frame (register_of X86_64 a) (Some v) (portable a)
before frame o a (operand.Host name) = compared o frame (register_of X86_64 a) (Some (host_address name)) (portable a)
before frame o a (operand.Label l) = tt
before frame o a (operand.Slot k) = tt

added : (o : BranchSumOp) (frame a v : ℕ) → In a → Within (number_sum o frame a v)
added o frame a v h = by (is_half v)
  where
    by : (b : Bool)
        → Within (if b then instr.Imm (sum_number o) a (signed_view v) ∷ [] else number_row 5 v ∷ (instr.RmReg (sum_row o) a 5 ∷ again frame))
    by true = ((h, tt), tt)
    by false = (number 5 v refl, ((h, tt), ((refl, tt), tt)))

before-sum : (frame : ℕ) (o : BranchSumOp) (a : Reg) (x : Operand) → Within (before_sum_branch frame o a x)
before-sum frame o a (operand.Reg b) = ((portable a, tt), tt)
before-sum frame o a (operand.Number v) = added o frame (register_of X86_64 a) v (portable a)
before-sum frame o a (operand.Host name) = added o frame (register_of X86_64 a) (host_address name) (portable a)
before-sum frame o a (operand.Label l) = tt
before-sum frame o a (operand.Slot k) = tt

-- a jump writes none
led : (r : Reach) (c : Cond) (l : ℕ) → StaysWithin false (Jump (jump_kind r c) l)
led Short c l = tt
led o c l = tt

branched : (r : Reach) (frame : ℕ) (o : Condition) (xs : List Operand) → StayWithin false (branch_items r frame o xs)
branched r frame o (operand.Label l ∷ operand.Reg a ∷ x ∷ []) =
    stay-append (ones (before_branch frame o a x)) _ (stay-ones (before_branch frame o a x) (before frame o a x)) (led r (taken o) l.0, tt)
branched r frame o xs = tt

summed : (r : Reach) (frame : ℕ) (o : BranchSumOp) (xs : List Operand) → StayWithin false (sum_items r frame o xs)
summed r frame o (operand.Label l ∷ operand.Reg a ∷ x ∷ []) =
    stay-append (ones (before_sum_branch frame o a x)) _ (stay-ones (before_sum_branch frame o a x) (before-sum frame o a x)) (led r (sum_taken o) l.0, tt)
summed r frame o xs = tt

jumped : (r : Reach) (xs : List Operand) → StayWithin false (jump_items r xs)
jumped Short (operand.Label l ∷ []) = (tt, tt)
jumped Near (operand.Label l ∷ []) = (tt, tt)
jumped Far (operand.Label l ∷ []) = (tt, tt)
jumped r xs = tt

called : (xs : List Operand) → StayWithin true (call_items xs)
called (operand.Label l ∷ []) = ((refl, tt), tt)
called (operand.Host name ∷ []) = moving-ones (host_code name) ((refl, tt), ((refl, tt), ((refl, tt), tt)))
called xs = tt

results : (x : Operand) → StayWithin false (result_items x)
results (operand.Reg R0) = tt
results (operand.Reg r) = ((refl, tt), tt)
results (operand.Label l) = (refl, tt)
results (operand.Number v) = (number result v refl, tt)
results (operand.Host name) = (number result (host_address name) refl, tt)
results (operand.Slot k) = tt

restored : (saved : ℕ) → Moving (restores saved)
restored saved = each-taken (WritesWithin true) saved (restores 3) ((refl, tt), ((refl, tt), ((refl, tt), tt)))

returns : (saved : ℕ) → StayWithin true (ones (return_code saved))
returns saved =
    moving-ones (return_code saved)
    (moving-join (restore_code saved) (instr.Bare Ret ∷ []) (moving-join (restores saved) leave_code (restored saved) ((refl, tt), ((refl, tt), tt))) ((refl, tt), tt))

returned : (saved : ℕ) (xs : List Operand) → StayWithin true (ret_items saved xs)
returned saved (x ∷ []) = moving-append (result_items x) (ones (return_code saved)) (items-moving (result_items x) (results x)) (returns saved)
returned saved xs = tt

register-jumped : (xs : List Operand) → StayWithin false (register_jump_items xs)
register-jumped (operand.Reg a ∷ []) = (tt, tt)
register-jumped xs = tt

register-called : (xs : List Operand) → StayWithin true (register_call_items xs)
register-called (operand.Reg a ∷ []) = ((refl, tt), ((refl, tt), ((refl, tt), tt)))
register-called xs = tt

leaps : (r : Reach) (saved : ℕ) (o : ControlOp) (last : LastOperand) (xs : List Operand) → StayWithin (moves_stack X86_64 (op.Control o last)) (leap_items r saved o last xs)
leaps r saved control.Jmp last_operand.Immediate xs = jumped r xs
leaps r saved control.Jmp last_operand.Register xs = register-jumped xs
leaps r saved control.Call last_operand.Immediate xs = called xs
leaps r saved control.Call last_operand.Register xs = register-called xs
leaps r saved control.Finish last_operand.Immediate xs = called xs
leaps r saved control.Finish last_operand.Register xs = register-called xs
leaps r saved control.Ret last xs = returned saved xs
leaps r saved control.Pusharg last xs = tt

-- ---- the others
idles : (k : ℕ) → Within (idle k)
idles zero = tt
idles (suc k) = (tt, idles k)

aligned : (at : ℕ) (xs : List Operand) → StayWithin false (align_items at xs)
aligned at (operand.Number n ∷ []) = stay-ones (align_code at n) (idles (padding at n))
aligned at xs = tt

below : (rs : List ℕ) (k : ℕ) → Moving (stores_below rs k)
below [] k = tt
below (r ∷ rs) k = (tt, below rs (suc k))

stored : (saved homes : ℕ) → Moving (stored_code saved homes)
stored saved homes =
    moving-join (stores_below (kept_registers X86_64 saved) 2) (stores_below (home_registers X86_64 homes) 5) (below (kept_registers X86_64 saved) 2)
    (below (home_registers X86_64 homes) 5)

begins : (frame homes saved : ℕ) → Moving (prolog_code saved frame homes)
begins frame homes saved = (tt, ((refl, tt), moving-join (stored_code saved homes) (lowered frame) (stored saved homes) ((refl, tt), tt)))

plainly : (o : PlainOp) (xs : List Operand) (frame homes saved at : ℕ) → StayWithin (moves_stack X86_64 (op.Plain o)) (plain_items o xs frame homes saved at)
plainly plain.Prolog xs frame homes saved at = moving-ones (prolog_code saved frame homes) (begins frame homes saved)
plainly plain.Epilog xs frame homes saved at = returns saved
plainly plain.Ret xs frame homes saved at = returns saved
plainly plain.Align xs frame homes saved at = aligned at xs
plainly o xs frame homes saved at = tt

stay : (r : Reach) (o : Op) (xs : List Operand) (frame homes saved at : ℕ) → StayWithin (moves_stack X86_64 o) (control_items r o xs frame homes saved at)
stay r (op.Branch o last) xs frame homes saved at = branched r frame o xs
stay r (op.BranchSum o last) xs frame homes saved at = summed r frame o xs
stay r (op.Control o last) xs frame homes saved at = leaps r saved o last xs
stay r (op.Plain o) xs frame homes saved at = plainly o xs frame homes saved at
stay r o xs frame homes saved at = tt

pub control-items-stay : ControlItemsStay
control-items-stay r n frame homes saved at = stay r n.op n.operands frame homes saved at
