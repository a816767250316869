-- The items of the nodes that branch, jump, call and return, of `prolog`, `.align` and of those without code; none but those of a `prolog` store.
use Rattle.std.proofs.Common.{◌≡◌, ℕ, zero, suc, ◌+◌, ◌≤◌, Bool, true, false, List, [], ◌∷◌, ◌++◌, refl, arith, length}
use Rattle.std.specs.Prelude.{◌==◌, ◌&&◌, ◌%◌, ◌^◌, pos, if◌then◌else◌, Option, Some, None}
use Rattle.lg_base.specs.HostNames.{host_address}
use Rattle.lg_base.specs.Words.{signed_view, is_half}
use Rattle.lg_base.specs.declared.target.Target.TheVariants.{X86_64}
use Rattle.lg_selx_values.specs.Processor.Numbers.{number_row}
use Rattle.lg_op.specs.declared.op.BranchSumOp.{BranchSumOp}
use Rattle.lg_op.specs.declared.op.Condition.{Condition}
use Rattle.lg_op.specs.declared.op.ControlOp.{ControlOp}
use Rattle.lg_op.specs.declared.op.ControlOp.TheVariants as control
use Rattle.lg_op.specs.declared.op.LastOperand.{LastOperand}
use Rattle.lg_op.specs.declared.op.LastOperand.TheVariants as last_operand
use Rattle.lg_op.specs.declared.op.Op.{Op}
use Rattle.lg_op.specs.declared.op.Op.TheVariants as op
use Rattle.lg_op.specs.declared.op.PlainOp.TheVariants as plain_op
use Rattle.lg_op.specs.declared.operand.Label.{Label}
use Rattle.lg_op.specs.declared.operand.Operand.{Operand}
use Rattle.lg_op.specs.declared.operand.Operand.TheVariants as operand
use Rattle.lg_op.specs.declared.operand.Reg.{Reg}
use Rattle.lg_sel.proofs.LabelLemmas.{Passes, AllPass}
use Rattle.lg_sel.proofs.StoreLemmas as stores
use Rattle.lg_sel.specs.Stores.{own_stores}
use Rattle.lg_selx.specs.Stores.{x86_stores}
use Rattle.lg_sel.specs.declared.reach.Reach.{Reach}
use Rattle.lg_sel.specs.declared.reach.Reach.TheVariants as reaches
use Rattle.lg_selx.proofs.Emissions.{Names, NoneStores, Keeps, keep-none, number-keeps, Emits, none, more, instructions, plain, number, address, jump, front, behind}
use Rattle.lg_selx.specs.Control.Alignments.{padding, idle, align_code}
use Rattle.lg_selx.specs.Control.Branches.{comparison, is_difference, taken, far_number, pointer_comparison, wide_comparison, word_comparison, before_branch}
use Rattle.lg_selx.specs.Control.ControlItems.{jump_kind, plain_kind, branch_if_items, branch_items, sum_items, jump_items, call_items, result_items, ret_items, register_jump_items, register_call_items, leap_items, align_items, control_items}
use Rattle.lg_selx.specs.Control.HostCalls.{host_code}
use Rattle.lg_sel.proofs.OfControl.StoreLemmas.{kept-most, stores-long}
use Rattle.lg_sel.specs.Control.Stores.{kept_registers, home_registers}
use Rattle.lg_selx.specs.Control.Prologs.{store_word, stores_below, lowered, prolog_code}
use Rattle.lg_selx.specs.Control.RegisterLeaps.{register_jump_code, register_call_code}
use Rattle.lg_selx.specs.Control.Returns.{result, restores, leave_code, restore_code, return_code}
use Rattle.lg_selx.specs.Control.SumBranches.{sum_row, sum_number, sum_taken, number_sum, before_sum_branch}
use Rattle.lg_selx_values.specs.declared.items.Item.TheVariants.{Jump}
use Rattle.lg_selx_values.specs.declared.items.JumpKind.TheVariants.{Near}
use Rattle.lg_selx_values.specs.Scratch.{again}
use Rattle.lg_op.specs.declared.operand.Reg.TheVariants.{R0}
use Rattle.lg_temp.specs.Abis.{register_of}
use Rattle.lg_x86.specs.declared.instruction.Cond.{Cond}
use Rattle.lg_selx.proofs.OfControl.TakenLemmas.{each-taken}
use Rattle.lg_x86.specs.declared.instruction.BareOp.TheVariants.{Ret}
use Rattle.lg_x86.specs.declared.instruction.ImmOp.TheVariants.{Andi, Cmpi}
use Rattle.lg_x86.specs.declared.instruction.Instr.{Instr}
use Rattle.lg_x86.specs.declared.instruction.Instr.TheVariants as instr
use Rattle.lg_x86.specs.declared.instruction.JumpNearOp.TheVariants.{Call32}
use Rattle.lg_x86.specs.declared.instruction.RmRegOp.TheVariants.{Mov}

-- ---- instructions
pointed-none : (o : Condition) (frame v : ℕ) → NoneStores (pointer_comparison o frame v)
pointed-none o frame v = by (is_difference o)
  where
    by : (b : Bool) → NoneStores (if b then instr.Imm Cmpi 5 (far_number v) ∷ [] else instr.Imm Andi 5 (pos (v % 2 ^ 30)) ∷ again frame)
    by true = refl
    by false = refl

wide-none : (o : Condition) (frame a v : ℕ) → NoneStores (wide_comparison o frame a v)
wide-none o frame a v = by (a == 5)
  where
    by : (b : Bool) → NoneStores (if b then pointer_comparison o frame v else number_row 5 v ∷ (instr.RmReg (comparison o) a 5 ∷ again frame))
    by true = pointed-none o frame v
    by false = keep-none (number_row 5 v ∷ (instr.RmReg (comparison o) a 5 ∷ again frame)) (number-keeps 5 v, (refl, (refl, tt)))

compared-none : (o : Condition) (frame a : ℕ) (x : Option ℕ) → NoneStores (word_comparison o frame a x)
compared-none o frame a None = refl
compared-none o frame a (Some v) = by (is_difference o && is_half v)
  where
    by : (b : Bool) → NoneStores (if b then instr.Imm Cmpi a (signed_view v) ∷ [] else wide_comparison o frame a v)
    by true = refl
    by false = wide-none o frame a v

before-none : (frame : ℕ) (o : Condition) (a : Reg) (x : Operand) → NoneStores (before_branch frame o a x)
before-none frame o a (operand.Reg b) = refl
before-none frame o a (operand.Number v) = compared-none o frame (register_of X86_64 a) (Some v)
before-none frame o a (operand.Host name) = compared-none o frame (register_of X86_64 a) (Some (host_address name))
before-none frame o a (operand.Label l) = refl
before-none frame o a (operand.Slot k) = refl

added-none : (o : BranchSumOp) (frame a v : ℕ) → NoneStores (number_sum o frame a v)
added-none o frame a v = by (is_half v)
  where
    by : (b : Bool) → NoneStores (if b then instr.Imm (sum_number o) a (signed_view v) ∷ [] else number_row 5 v ∷ (instr.RmReg (sum_row o) a 5 ∷ again frame))
    by true = refl
    by false = keep-none (number_row 5 v ∷ (instr.RmReg (sum_row o) a 5 ∷ again frame)) (number-keeps 5 v, (refl, (refl, tt)))

before-sum-none : (frame : ℕ) (o : BranchSumOp) (a : Reg) (x : Operand) → NoneStores (before_sum_branch frame o a x)
before-sum-none frame o a (operand.Reg b) = refl
before-sum-none frame o a (operand.Number v) = added-none o frame (register_of X86_64 a) v
before-sum-none frame o a (operand.Host name) = added-none o frame (register_of X86_64 a) (host_address name)
before-sum-none frame o a (operand.Label l) = refl
before-sum-none frame o a (operand.Slot k) = refl

idle-none : (k : ℕ) → NoneStores (idle k)
idle-none zero = refl
idle-none (suc k) = idle-none k

-- a return loads alone
return-none : (saved : ℕ) → NoneStores (return_code saved)
return-none saved =
    stores.none-append x86_stores (restore_code saved) (instr.Bare Ret ∷ [])
    (stores.none-append x86_stores (restores saved) leave_code (keep-none (restores saved) (each-taken Keeps saved (restores 3) (refl, (refl, (refl, tt))))) refl) refl

-- a `prolog` stores FP and this many others
prolog-few : (frame homes saved : ℕ) → stores.stores_among x86_stores (prolog_code saved frame homes) ≤ 1 + length (home_registers X86_64 homes) + saved
prolog-few frame homes saved =
    let kept : List Instr = stores_below (kept_registers X86_64 saved) 2 in
    let own : List Instr = stores_below (home_registers X86_64 homes) 5 in
    let all = stores.among-append x86_stores (kept ++ own) (lowered frame) in
    let both = stores.among-append x86_stores kept own in
    let first = stores.among-length x86_stores kept in
    let last = stores.among-length x86_stores own in
    let first_long = stores-long store_word (kept_registers X86_64 saved) 2 in
    let last_long = stores-long store_word (home_registers X86_64 homes) 5 in
    let few = kept-most X86_64 saved in omega (arith, all, both, first, last, first_long, last_long, few)

-- the label of a jump is named
kind-named : (reach : Reach) (is : ℕ → Bool) (holds : Cond) (l : Label) → is l.0 ≡ true → Names reach is (Jump (jump_kind reach holds) l.0)
kind-named reaches.Short is holds l h = h
kind-named o is holds l h = h

plain-named : (reach : Reach) (is : ℕ → Bool) (l : Label) → is l.0 ≡ true → Names reach is (Jump (plain_kind reach) l.0)
plain-named reaches.Short is l h = h
plain-named o is l h = h

-- ---- items
module _ (reach : Reach) (is : ℕ → Bool) where
  branches : (code : List Instr) (holds : Cond) (l : Label) → NoneStores code → is l.0 ≡ true → Emits reach is 1 0 (branch_if_items reach code holds l)
  branches code holds l few h = front reach is 1 0 code (Jump (jump_kind reach holds) l.0 ∷ []) few (jump reach is (jump_kind reach holds) l.0 (kind-named reach is holds l h))

  branched : (frame : ℕ) (o : Condition) (xs : List Operand) → AllPass is xs → Emits reach is 1 0 (branch_items reach frame o xs)
  branched frame o (operand.Label l ∷ operand.Reg a ∷ x ∷ []) h = branches (before_branch frame o a x) (taken o) l (before-none frame o a x) h.0
  branched frame o xs h = none reach is 1 0

  summed : (frame : ℕ) (o : BranchSumOp) (xs : List Operand) → AllPass is xs → Emits reach is 1 0 (sum_items reach frame o xs)
  summed frame o (operand.Label l ∷ operand.Reg a ∷ x ∷ []) h = branches (before_sum_branch frame o a x) (sum_taken o) l (before-sum-none frame o a x) h.0
  summed frame o xs h = none reach is 1 0

  jumped : (xs : List Operand) → AllPass is xs → Emits reach is 1 0 (jump_items reach xs)
  jumped (operand.Label l ∷ []) h = jump reach is (plain_kind reach) l.0 (plain-named reach is l h.0)
  jumped xs h = none reach is 1 0

  called : (xs : List Operand) → AllPass is xs → Emits reach is 1 0 (call_items xs)
  called (operand.Label l ∷ []) h = jump reach is (Near Call32) l.0 h.0
  called (operand.Host name ∷ []) h = plain reach is 1 (host_code name) refl
  called xs h = none reach is 1 0

  result-emits : (x : Operand) → Passes is x → Emits reach is 1 0 (result_items x)
  result-emits (operand.Reg R0) h = none reach is 1 0
  result-emits (operand.Reg a) h = plain reach is 1 (instr.RmReg Mov result (register_of X86_64 a) ∷ []) refl
  result-emits (operand.Label l) h = address reach is result l.0 h
  result-emits (operand.Number v) h = number reach is 1 result v
  result-emits (operand.Host name) h = number reach is 1 result (host_address name)
  result-emits (operand.Slot k) h = none reach is 1 0

  returned : (saved : ℕ) (xs : List Operand) → AllPass is xs → Emits reach is 1 0 (ret_items saved xs)
  returned saved (x ∷ []) h = behind reach is 1 0 (result_items x) (return_code saved) (result-emits x h.0) (return-none saved)
  returned saved xs h = none reach is 1 0

  register-jumped : (xs : List Operand) → Emits reach is 1 0 (register_jump_items xs)
  register-jumped (operand.Reg a ∷ []) = plain reach is 1 (register_jump_code 0 a) refl
  register-jumped xs = none reach is 1 0

  register-called : (xs : List Operand) → Emits reach is 1 0 (register_call_items xs)
  register-called (operand.Reg a ∷ []) = plain reach is 1 (register_call_code 0 a) refl
  register-called xs = none reach is 1 0

  leaps : (saved : ℕ) (o : ControlOp) (last : LastOperand) (xs : List Operand) → AllPass is xs → Emits reach is 1 0 (leap_items reach saved o last xs)
  leaps saved control.Jmp last_operand.Immediate xs h = jumped xs h
  leaps saved control.Jmp last_operand.Register xs h = register-jumped xs
  leaps saved control.Call last_operand.Immediate xs h = called xs h
  leaps saved control.Call last_operand.Register xs h = register-called xs
  leaps saved control.Finish last_operand.Immediate xs h = called xs h
  leaps saved control.Finish last_operand.Register xs h = register-called xs
  leaps saved control.Ret last xs h = returned saved xs h
  leaps saved control.Pusharg last xs h = none reach is 1 0

  aligned : (at : ℕ) (xs : List Operand) → Emits reach is 1 0 (align_items at xs)
  aligned at (operand.Number n ∷ []) = plain reach is 1 (align_code at n) (idle-none (padding at n))
  aligned at xs = none reach is 1 0

  pub controls-emit : (o : Op) (xs : List Operand) (frame homes saved at : ℕ) → AllPass is xs → Emits reach is 1 (own_stores X86_64 homes saved o) (control_items reach o xs frame homes saved at)
  controls-emit (op.Branch o last) xs frame homes saved at h = branched frame o xs h
  controls-emit (op.BranchSum o last) xs frame homes saved at h = summed frame o xs h
  controls-emit (op.Control o last) xs frame homes saved at h = more reach is 1 1 0 (own_stores X86_64 homes saved (op.Control o last)) (control_items reach (op.Control o last) xs frame homes saved at) (omega arith) (omega arith) (leaps saved o last xs h)
  controls-emit (op.Plain plain_op.Prolog) xs frame homes saved at h = instructions reach is 1 (1 + length (home_registers X86_64 homes) + saved) (prolog_code saved frame homes) (prolog-few frame homes saved)
  controls-emit (op.Plain plain_op.Epilog) xs frame homes saved at h = plain reach is 1 (return_code saved) (return-none saved)
  controls-emit (op.Plain plain_op.Ret) xs frame homes saved at h = plain reach is 1 (return_code saved) (return-none saved)
  controls-emit (op.Plain plain_op.Align) xs frame homes saved at h = aligned at xs
  controls-emit (op.Plain plain_op.Movi) xs frame homes saved at h = none reach is 1 0
  controls-emit (op.Plain o) xs frame homes saved at h = none reach is 1 0
  controls-emit o xs frame homes saved at h = none reach is 1 (own_stores X86_64 homes saved o)
