-- No item of a node that branches, jumps, calls or returns, of `prolog` or `.align` writes a register that is outside of the conventions.
use Rattle.std.proofs.Common.{ℕ, zero, suc, Bool, true, false, List, [], ◌∷◌, ◌++◌, refl}
use Rattle.std.specs.Prelude.{◌==◌, ◌-◌, pos, negsuc, nat_le, nat_lt, if◌then◌else◌}
use Rattle.lg_carry.specs.Outside.{moves_stack}
use Rattle.lg_base.specs.HostNames.{host_address}
use Rattle.lg_base.specs.declared.target.Target.TheVariants.{Riscv64}
use Rattle.lg_selr_values.specs.Processor.Numbers.{low_part, high_part, number_code}
use Rattle.lg_rv.specs.declared.instruction.Instr.{Instr}
use Rattle.lg_op.specs.declared.op.BranchSumOp.{BranchSumOp}
use Rattle.lg_op.specs.declared.op.BranchSumOp.TheVariants as sum
use Rattle.lg_op.specs.declared.op.Condition.{Condition}
use Rattle.lg_op.specs.declared.op.Condition.TheVariants as condition
use Rattle.lg_op.specs.declared.op.ControlOp.{ControlOp}
use Rattle.lg_op.specs.declared.op.ControlOp.TheVariants as control
use Rattle.lg_op.specs.declared.op.LastOperand.{LastOperand}
use Rattle.lg_op.specs.declared.op.LastOperand.TheVariants as last_operand
use Rattle.lg_op.specs.declared.op.Op.{Op}
use Rattle.lg_op.specs.declared.op.Op.TheVariants as op
use Rattle.lg_op.specs.declared.op.PlainOp.{PlainOp}
use Rattle.lg_op.specs.declared.op.PlainOp.TheVariants as plain
use Rattle.lg_op.specs.declared.operand.Label.{Label}
use Rattle.lg_op.specs.declared.operand.Operand.{Operand}
use Rattle.lg_op.specs.declared.operand.Operand.TheVariants as operand
use Rattle.lg_rv.specs.declared.instruction.Instr.TheVariants as instr
use Rattle.lg_rv.specs.declared.instruction.BranchOp.{BranchOp}
use Rattle.lg_rv.specs.declared.instruction.ImmOp.TheVariants.{Addi, Addiw}
use Rattle.lg_rv.specs.declared.instruction.UpperOp.TheVariants.{Lui}
use Rattle.lg_rv.specs.declared.instruction.RegOp.TheVariants.{Sub}
use Rattle.lg_selr.specs.Control.Alignments.{padding, idle, align_code}
use Rattle.lg_selr.specs.Control.Branches.{bits_code}
use Rattle.lg_selr.specs.Control.ControlItems.{second_register, word_items, branch_items, sum_items, jump_items, call_items, result_items, ret_items, register_leap_items, leap_items, align_items, plain_items, control_items}
use Rattle.lg_selr.specs.Control.ControlItems as controls
use Rattle.lg_carry.specs.Nodes.Immediates.{immediate}
use Rattle.lg_selr.specs.Control.Prologs.{first_registers, home_registers, stores_below, fall_code, framed_code, prolog_code}
use Rattle.lg_selr.specs.Control.Returns.{near_return, far_return, leaving_code, return_code}
use Rattle.lg_selr.specs.Control.SumBranches as sums
use Rattle.lg_selr_values.specs.Items.{ones, StayWithin}
use Rattle.lg_temp.specs.Abis.{register_of}
use Rattle.lg_sel.specs.declared.reach.Reach.{Reach}
use Rattle.lg_sel.specs.declared.reach.Reach.TheVariants.{Short, Near, Far}
use Rattle.lg_selr_values.proofs.WithinLemmas.{In, portable, Within, stay-append, stay-ones, number, Moving, moving-join, moving-append, moving-ones, items-moving}
use Rattle.lg_selr.proofs.OfControl.RestoreLemmas.{of-saved}
use Rattle.lg_selr.specs.Control.ControlFits.{ControlItemsStay}

-- ---- branches, jumps, calls and returns
word : (t : ℕ) (x : Operand) → In t → StayWithin false (word_items t (immediate x))
word t (operand.Number v) h = stay-ones (number_code t v) (number t v h)
word t (operand.Host name) h = stay-ones (number_code t (host_address name)) (number t (host_address name) h)
word t (operand.Reg r) h = tt
word t x h = tt

compared : (x : Operand) → StayWithin false (controls.second_items x)
compared (operand.Reg r) = tt
compared (operand.Number v) = by (v == 0)
  where
    by : (b : Bool) → StayWithin false (if b then [] else ones (number_code 1 v))
    by true = tt
    by false = word 1 (operand.Number v) refl
compared (operand.Host name) = word 1 (operand.Host name) refl
compared (operand.Label l) = word 1 (operand.Label l) refl
compared (operand.Slot k) = word 1 (operand.Slot k) refl

bits : (o : Condition) (a b : ℕ) → Within (bits_code o a b)
bits condition.Ms a b = (refl, tt)
bits condition.Mc a b = (refl, tt)
bits o a b = tt

sum-code : (o : BranchSumOp) (a b : ℕ) → In a → Within (sums.sum_code o a b)
sum-code sum.OverflowAddU a b h = (refl, (refl, (h, tt)))
sum-code sum.OverflowSubU a b h = (refl, (h, tt))
sum-code sum.FitAddU a b h = (refl, (refl, (h, tt)))
sum-code sum.FitSubU a b h = (refl, (h, tt))
sum-code o a b h = (refl, (refl, (h, (refl, (h, tt)))))

leads : (r : Reach) (o : BranchOp) (a b : ℕ) (l : Label) → StayWithin false (controls.jump_unless_items r o a b l)
leads Short o a b l = (tt, tt)
leads Near o a b l = (tt, (refl, tt))
leads Far o a b l = (tt, ((refl, refl), tt))

labelled : (r : Reach) (rd base : ℕ) (l : Label) → In rd → In base → StayWithin false (controls.label_items r rd base l)
labelled Short rd base l h k = (h, tt)
labelled Near rd base l h k = (h, tt)
labelled Far rd base l h k = ((k, h), tt)

module _ (r : Reach) where
  branched : (o : Condition) (xs : List Operand) → StayWithin false (branch_items r o xs)
  branched o (operand.Label l ∷ operand.Reg a ∷ x ∷ []) =
      stay-append (controls.second_items x) _ (compared x)
      (stay-append (ones (bits_code o (register_of Riscv64 a) (second_register x))) _ (stay-ones (bits_code o (register_of Riscv64 a) (second_register x)) (bits o (register_of Riscv64 a) (second_register x))) (leads r _ _ _ l))
  branched o xs = tt

  summed : (o : BranchSumOp) (xs : List Operand) → StayWithin false (sum_items r o xs)
  summed o (operand.Label l ∷ operand.Reg a ∷ x ∷ []) =
      stay-append (controls.second_items x) _ (compared x)
      (stay-append (ones (sums.sum_code o (register_of Riscv64 a) (second_register x))) _ (stay-ones (sums.sum_code o (register_of Riscv64 a) (second_register x)) (sum-code o (register_of Riscv64 a) (second_register x) (portable a))) (leads r _ _ _ l))
  summed o xs = tt

  jumped : (xs : List Operand) → StayWithin false (jump_items r xs)
  jumped (operand.Label l ∷ []) = labelled r 0 31 l refl refl
  jumped xs = tt

  called : (xs : List Operand) → StayWithin false (call_items r xs)
  called (operand.Label l ∷ []) = labelled r 1 1 l refl refl
  called (operand.Host name ∷ []) = (refl, (refl, tt))
  called xs = tt

  result : (x : Operand) → StayWithin false (result_items x)
  result (operand.Reg r) = (refl, tt)
  result (operand.Label l) = (refl, tt)
  result (operand.Number v) = word 10 (operand.Number v) refl
  result (operand.Host name) = word 10 (operand.Host name) refl
  result (operand.Slot k) = word 10 (operand.Slot k) refl

  leaving : (frame : ℕ) → StayWithin true (ones (leaving_code frame))
  leaving frame = by (nat_lt frame 2048)
    where
      by : (b : Bool) → StayWithin true (ones (if b then near_return frame else far_return))
      by true = (refl, (refl, (refl, (refl, tt))))
      by false = (refl, (refl, (refl, (refl, (refl, tt)))))

  returns : (saved frame : ℕ) → StayWithin true (ones (return_code saved frame))
  returns saved frame =
      let left = leaving frame in
      of-saved (λ n is. StayWithin true (ones (is ++ leaving_code frame))) left (refl, left) (refl, (refl, left)) (λ s. (refl, (refl, (refl, left)))) saved

  returned : (frame saved : ℕ) (xs : List Operand) → StayWithin true (ret_items frame saved xs)
  returned frame saved (x ∷ []) = moving-append (result_items x) (ones (return_code saved frame)) (items-moving (result_items x) (result x)) (returns saved frame)
  returned frame saved xs = tt

  leapt : (rd : ℕ) (xs : List Operand) → In rd → StayWithin false (register_leap_items rd xs)
  leapt rd (operand.Reg a ∷ []) h = (h, tt)
  leapt rd xs h = tt

  leaps : (frame saved : ℕ) (o : ControlOp) (last : LastOperand) (xs : List Operand) → StayWithin (moves_stack Riscv64 (op.Control o last)) (leap_items r frame saved o last xs)
  leaps frame saved control.Jmp last_operand.Immediate xs = jumped xs
  leaps frame saved control.Jmp last_operand.Register xs = leapt 0 xs refl
  leaps frame saved control.Call last_operand.Immediate xs = called xs
  leaps frame saved control.Call last_operand.Register xs = leapt 1 xs refl
  leaps frame saved control.Finish last_operand.Immediate xs = called xs
  leaps frame saved control.Finish last_operand.Register xs = leapt 1 xs refl
  leaps frame saved control.Ret last xs = returned frame saved xs
  leaps frame saved control.Pusharg last xs = tt

  idles : (k : ℕ) → Within (idle k)
  idles zero = tt
  idles (suc k) = (refl, idles k)

  aligned : (at : ℕ) (xs : List Operand) → StayWithin false (align_items at xs)
  aligned at (operand.Number n ∷ []) = stay-ones (align_code at n) (idles (padding at n))
  aligned at xs = tt

  below : (first : ℕ) (rs : List ℕ) (k : ℕ) → Moving (stores_below first rs k)
  below first [] k = tt
  below first (r ∷ rs) k = (tt, below first rs (suc k))

  falls : (n : ℕ) → Moving (fall_code n)
  falls n = by (nat_le n 2048)
    where
      by : (b : Bool) → Moving (if b then instr.Imm Addi 2 2 (negsuc (n - 1)) ∷ [] else instr.Upper Lui 1 (high_part n) ∷ instr.Imm Addiw 1 1 (low_part n) ∷ instr.Reg Sub 2 2 1 ∷ [])
      by true = (refl, tt)
      by false = (refl, (refl, (refl, tt)))

  begins : (saved frame homes : ℕ) → Moving (prolog_code saved frame homes)
  begins saved frame homes = by (nat_le frame 2048)
    where
      framed : (first : ℕ) (rest : List Instr) → Moving rest → Moving (framed_code saved first homes rest)
      framed first rest h =
          let end : List Instr = instr.Imm Addi 8 2 (pos (first - 16)) ∷ rest in (
            refl,
            moving-join (stores_below first (first_registers saved) 0) (stores_below first (home_registers homes) 5 ++ end) (below first (first_registers saved) 0)
                (moving-join (stores_below first (home_registers homes) 5) end (below first (home_registers homes) 5) (refl, h)),
          )

      by : (b : Bool) → Moving (if b then framed_code saved frame homes [] else framed_code saved 2048 homes (fall_code (frame - 2048)))
      by true = framed frame [] tt
      by false = framed 2048 (fall_code (frame - 2048)) (falls (frame - 2048))

  plainly : (o : PlainOp) (xs : List Operand) (frame homes saved at : ℕ) → StayWithin (moves_stack Riscv64 (op.Plain o)) (plain_items o xs frame homes saved at)
  plainly plain.Prolog xs frame homes saved at = moving-ones (prolog_code saved frame homes) (begins saved frame homes)
  plainly plain.Epilog xs frame homes saved at = returns saved frame
  plainly plain.Ret xs frame homes saved at = returns saved frame
  plainly plain.Align xs frame homes saved at = aligned at xs
  plainly o xs frame homes saved at = tt

  answered : (o : Op) (xs : List Operand) (frame homes saved at : ℕ) → StayWithin (moves_stack Riscv64 o) (control_items r o xs frame homes saved at)
  answered (op.Branch o last) xs frame homes saved at = branched o xs
  answered (op.BranchSum o last) xs frame homes saved at = summed o xs
  answered (op.Control o last) xs frame homes saved at = leaps frame saved o last xs
  answered (op.Plain o) xs frame homes saved at = plainly o xs frame homes saved at
  answered o xs frame homes saved at = tt

pub control-items-stay : ControlItemsStay
control-items-stay r n frame homes saved at = answered r n.op n.operands frame homes saved at
