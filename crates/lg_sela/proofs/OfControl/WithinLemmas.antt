-- No item of a node that branches, jumps, calls or returns, of `prolog` or `.align` writes a register that is outside of the conventions.
use Rattle.std.proofs.Common.{ℕ, zero, suc, Bool, true, List, [], ◌∷◌, ◌++◌, refl, false}
use Rattle.std.specs.Prelude.{◌-◌, ◌/◌, ◌%◌, false, nat_lt, take, if◌then◌else◌}
use Rattle.lg_carry.specs.Outside.{moves_stack}
use Rattle.lg_base.specs.HostNames.{host_address}
use Rattle.lg_base.specs.declared.target.Target.TheVariants.{Aarch64}
use Rattle.lg_op.specs.declared.op.BranchSumOp.{BranchSumOp}
use Rattle.lg_op.specs.declared.op.BranchSumOp.TheVariants as sum
use Rattle.lg_op.specs.declared.op.Condition.{Condition}
use Rattle.lg_op.specs.declared.op.Condition.TheVariants as condition
use Rattle.lg_op.specs.declared.op.ControlOp.{ControlOp}
use Rattle.lg_op.specs.declared.op.ControlOp.TheVariants as control
use Rattle.lg_op.specs.declared.op.LastOperand.{LastOperand}
use Rattle.lg_op.specs.declared.op.LastOperand.TheVariants as last_operand
use Rattle.lg_op.specs.declared.op.Op.{Op}
use Rattle.lg_op.specs.declared.op.Op.TheVariants as op
use Rattle.lg_op.specs.declared.op.PlainOp.{PlainOp}
use Rattle.lg_op.specs.declared.op.PlainOp.TheVariants as plain
use Rattle.lg_op.specs.declared.operand.Label.{Label}
use Rattle.lg_op.specs.declared.operand.Operand.{Operand}
use Rattle.lg_op.specs.declared.operand.Operand.TheVariants as operand
use Rattle.lg_a64.specs.declared.instruction.BranchRegOp.{BranchRegOp}
use Rattle.lg_a64.specs.declared.instruction.BranchRegOp.TheVariants.{Br, Blr, Ret}
use Rattle.lg_a64.specs.declared.instruction.ImmOp.TheVariants.{Addi, Addsi, Subi, Subsi}
use Rattle.lg_a64.specs.declared.instruction.Cond.{Cond}
use Rattle.lg_a64.specs.declared.instruction.Instr.{Instr}
use Rattle.lg_a64.specs.declared.instruction.Instr.TheVariants as instr
use Rattle.lg_temp.specs.Abis.{register_of}
use Rattle.lg_sela_values.specs.Processor.A64Rows.{frame_pointer, stack_pointer, link, zero_register}
use Rattle.lg_sela_values.specs.Processor.Destinations.{WritesWithin}
use Rattle.lg_sela_values.specs.Processor.Numbers.{number_code}
use Rattle.lg_carry.specs.Nodes.Immediates.{immediate}
use Rattle.lg_sela_values.specs.Items.{ones, StayWithin}
use Rattle.lg_sela_values.proofs.WithinLemmas.{In, portable, Within, stay-append, stay-ones, number, Moving, moving-join, moving-append, moving-ones, items-moving, flagged}
use Rattle.lg_sel.specs.declared.reach.Reach.{Reach}
use Rattle.lg_sel.specs.declared.reach.Reach.TheVariants.{Short, Near, Far}
use Rattle.lg_sela.specs.Control.Alignments.{padding, idle, align_code}
use Rattle.lg_base.specs.Words.{negated}
use Rattle.lg_sela_values.specs.BinaryCode.{is_small}
use Rattle.lg_sela.specs.Control.Branches.{comparison, is_held, number_comparison}
use Rattle.lg_sela.specs.Control.ControlFits.{ControlItemsStay}
use Rattle.lg_sela.specs.Control.ControlItems.{second_register, word_items, second_items, compared_items, comparing, leads_items, branch_items, sum_items, jump_items, call_items, result_items, ret_items}
use Rattle.lg_sela.specs.Control.ControlItems.{register_leap_items, leap_items, align_items, plain_items, control_items}
use Rattle.lg_sela.specs.Control.Prologs.{first_registers, home_registers, stores_below, fall_code, framed_code, is_near, prolog_code}
use Rattle.lg_sela.specs.Control.Returns.{result, kept_loads, restores, near_return, far_return, leaving_code, return_code}
use Rattle.lg_sela.specs.Control.SumBranches.{sum_instruction}

-- ---- branches, jumps, calls and returns
word : (t : ℕ) (x : Operand) → In t → StayWithin false (word_items t (immediate x))
word t (operand.Number v) h = stay-ones (number_code t v) (number t v h)
word t (operand.Host name) h = stay-ones (number_code t (host_address name)) (number t (host_address name) h)
word t (operand.Reg r) h = tt
word t x h = tt

second : (x : Operand) → StayWithin false (second_items x)
second (operand.Reg r) = tt
second (operand.Number v) = word link (operand.Number v) refl
second (operand.Host name) = word link (operand.Host name) refl
second (operand.Label l) = word link (operand.Label l) refl
second (operand.Slot k) = word link (operand.Slot k) refl

compared : (o : Condition) (a b : ℕ) → WritesWithin false (comparison o a b)
compared condition.Ms a b = tt
compared condition.Mc a b = tt
compared o a b = tt

put-compared : (o : Condition) (x : Operand) → StayWithin false (compared_items o x)
put-compared o (operand.Number v) = by (is_held o v)
  where
    by : (b : Bool) → StayWithin false (if b then [] else second_items (operand.Number v))
    by true = tt
    by false = second (operand.Number v)
put-compared o (operand.Reg r) = tt
put-compared o (operand.Host name) = second (operand.Host name)
put-compared o (operand.Label l) = second (operand.Label l)
put-compared o (operand.Slot k) = second (operand.Slot k)

number-within : (a v : ℕ) → WritesWithin false (number_comparison a v)
number-within a v = by (is_small v)
  where
    by : (b : Bool) → WritesWithin false (if b then instr.Imm Subsi zero_register a v false else instr.Imm Addsi zero_register a (negated v) false)
    by true = tt
    by false = tt

comparing-within : (o : Condition) (a : ℕ) (x : Operand) → WritesWithin false (comparing o a x)
comparing-within o a (operand.Number v) = by (is_held o v)
  where
    by : (b : Bool) → WritesWithin false (if b then number_comparison a v else comparison o a link)
    by true = number-within a v
    by false = compared o a link
comparing-within o a (operand.Reg r) = compared o a (register_of Aarch64 r)
comparing-within o a (operand.Host name) = compared o a link
comparing-within o a x = compared o a link

added : (o : BranchSumOp) (a b : ℕ) → In a → WritesWithin false (sum_instruction o a b)
added sum.OverflowAdd a b h = flagged a h
added o a b h = flagged a h

leads : (r : Reach) (c : Cond) (l : Label) → StayWithin false (leads_items r c l)
leads Short c l = (tt, tt)
leads Near c l = (tt, tt)
leads Far c l = (tt, (tt, tt))

branched : (r : Reach) (o : Condition) (xs : List Operand) → StayWithin false (branch_items r o xs)
branched r o (operand.Label l ∷ operand.Reg a ∷ x ∷ []) =
    stay-append (compared_items o x) _ (put-compared o x) (comparing-within o (register_of Aarch64 a) x, leads r _ l)
branched r o xs = tt

summed : (r : Reach) (o : BranchSumOp) (xs : List Operand) → StayWithin false (sum_items r o xs)
summed r o (operand.Label l ∷ operand.Reg a ∷ x ∷ []) =
    stay-append (second_items x) _ (second x) (added o (register_of Aarch64 a) (second_register x) (portable a), leads r _ l)
summed r o xs = tt

jumped : (xs : List Operand) → StayWithin false (jump_items xs)
jumped (operand.Label l ∷ []) = (tt, tt)
jumped xs = tt

called : (xs : List Operand) → StayWithin false (call_items xs)
called (operand.Label l ∷ []) = (refl, tt)
called (operand.Host name ∷ []) =
    stay-append (word_items link (immediate (operand.Host name))) (ones (instr.BranchReg Blr link ∷ [])) (word link (operand.Host name) refl) (refl, tt)
called xs = tt

results : (x : Operand) → StayWithin false (result_items x)
results (operand.Reg r) = (refl, tt)
results (operand.Label l) = (refl, tt)
results (operand.Number v) = word result (operand.Number v) refl
results (operand.Host name) = word result (operand.Host name) refl
results (operand.Slot k) = word result (operand.Slot k) refl

taken : (n : ℕ) (is : List Instr) → Moving is → Moving (take n is)
taken zero is h = tt
taken (suc n) [] h = tt
taken (suc n) (i ∷ is) h = (h.0, taken n is h.1)

returns : (saved frame : ℕ) → StayWithin true (ones (return_code saved frame))
returns saved frame =
    moving-ones (return_code saved frame) (moving-join (restores saved) (leaving_code frame) (taken saved kept_loads (refl, (refl, (refl, tt)))) (refl, by (nat_lt frame 4096)))
  where
    by : (b : Bool) → Moving (if b then near_return frame else far_return)
    by true = (refl, (refl, (tt, tt)))
    by false = (refl, (refl, (refl, (tt, tt))))

returned : (frame saved : ℕ) (xs : List Operand) → StayWithin true (ret_items frame saved xs)
returned frame saved (x ∷ []) = moving-append (result_items x) (ones (return_code saved frame)) (items-moving (result_items x) (results x)) (returns saved frame)
returned frame saved xs = tt

leapt : (o : BranchRegOp) (xs : List Operand) → StayWithin false (register_leap_items o xs)
leapt Br (operand.Reg a ∷ []) = (tt, tt)
leapt Blr (operand.Reg a ∷ []) = (refl, tt)
leapt Ret (operand.Reg a ∷ []) = (tt, tt)
leapt o xs = tt

leaps : (frame saved : ℕ) (o : ControlOp) (last : LastOperand) (xs : List Operand) → StayWithin (moves_stack Aarch64 (op.Control o last)) (leap_items frame saved o last xs)
leaps frame saved control.Jmp last_operand.Immediate xs = jumped xs
leaps frame saved control.Jmp last_operand.Register xs = leapt Br xs
leaps frame saved control.Call last_operand.Immediate xs = called xs
leaps frame saved control.Call last_operand.Register xs = leapt Blr xs
leaps frame saved control.Finish last_operand.Immediate xs = called xs
leaps frame saved control.Finish last_operand.Register xs = leapt Blr xs
leaps frame saved control.Ret last xs = returned frame saved xs
leaps frame saved control.Pusharg last xs = tt

-- ---- the others
idles : (k : ℕ) → Within (idle k)
idles zero = tt
idles (suc k) = (tt, idles k)

aligned : (at : ℕ) (xs : List Operand) → StayWithin false (align_items at xs)
aligned at (operand.Number n ∷ []) = stay-ones (align_code at n) (idles (padding at n))
aligned at xs = tt

below : (first : ℕ) (rs : List ℕ) (k : ℕ) → Moving (stores_below first rs k)
below first [] k = tt
below first (r ∷ rs) k = (tt, below first rs (suc k))

falls : (n : ℕ) → Moving (fall_code n)
falls n = by (nat_lt n 4096)
  where
    by : (b : Bool) → Moving (if b then instr.Imm Subi stack_pointer stack_pointer n false ∷ []
        else instr.Imm Subi stack_pointer stack_pointer (n / 4096 % 4096) true ∷ instr.Imm Subi stack_pointer stack_pointer (n % 4096) false ∷ [])
    by true = (refl, tt)
    by false = (refl, (refl, tt))

begins : (saved frame homes : ℕ) → Moving (prolog_code saved frame homes)
begins saved frame homes = by (is_near frame)
  where
    framed : (first : ℕ) (rest : List Instr) → Moving rest → Moving (framed_code saved first homes rest)
    framed first rest h =
        let end : List Instr = instr.Imm Addi frame_pointer stack_pointer (first - 16) false ∷ rest in (
          refl,
          moving-join (stores_below first (first_registers saved) 0) (stores_below first (home_registers homes) 5 ++ end) (below first (first_registers saved) 0)
              (moving-join (stores_below first (home_registers homes) 5) end (below first (home_registers homes) 5) (refl, h)),
        )

    by : (b : Bool) → Moving (if b then framed_code saved frame homes [] else framed_code saved 112 homes (fall_code (frame - 112)))
    by true = framed frame [] tt
    by false = framed 112 (fall_code (frame - 112)) (falls (frame - 112))

plainly : (o : PlainOp) (xs : List Operand) (frame homes saved at : ℕ) → StayWithin (moves_stack Aarch64 (op.Plain o)) (plain_items o xs frame homes saved at)
plainly plain.Prolog xs frame homes saved at = moving-ones (prolog_code saved frame homes) (begins saved frame homes)
plainly plain.Epilog xs frame homes saved at = returns saved frame
plainly plain.Ret xs frame homes saved at = returns saved frame
plainly plain.Align xs frame homes saved at = aligned at xs
plainly o xs frame homes saved at = tt

stay : (r : Reach) (o : Op) (xs : List Operand) (frame homes saved at : ℕ) → StayWithin (moves_stack Aarch64 o) (control_items r o xs frame homes saved at)
stay r (op.Branch o last) xs frame homes saved at = branched r o xs
stay r (op.BranchSum o last) xs frame homes saved at = summed r o xs
stay r (op.Control o last) xs frame homes saved at = leaps frame saved o last xs
stay r (op.Plain o) xs frame homes saved at = plainly o xs frame homes saved at
stay r o xs frame homes saved at = tt

pub control-items-stay : ControlItemsStay
control-items-stay r n frame homes saved at = stay r n.op n.operands frame homes saved at
