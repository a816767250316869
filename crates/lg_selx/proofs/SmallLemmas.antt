-- The items of each node have at most 256 bytes.
use Rattle.std.proofs.Common.{◌≡◌, ◌⊎◌, ⊎_elim, ℕ, zero, suc, ◌<◌, ◌≤◌, Bool, true, false, List, [], ◌∷◌, ◌++◌, length, length-append, refl, sym, ap, subst, arith}
use Rattle.std.specs.Prelude.{◌==◌, ◌&&◌, ◌%◌, ◌^◌, pos, if◌then◌else◌, Option, Some, None}
use Rattle.lg_base.specs.HostNames.{host_address}
use Rattle.lg_base.specs.Words.{signed_view, is_half}
use Rattle.lg_base.specs.declared.target.Target.TheVariants.{X86_64}
use Rattle.lg_selx_values.specs.Processor.Numbers.{number_row}
use Rattle.lg_op.specs.Forms.{is_alignment, forms_of, admit}
use Rattle.lg_op.specs.declared.node.Node.{Node}
use Rattle.lg_op.specs.declared.op.BranchSumOp.{BranchSumOp}
use Rattle.lg_op.specs.declared.op.Condition.{Condition}
use Rattle.lg_op.specs.declared.op.ControlOp.{ControlOp}
use Rattle.lg_op.specs.declared.op.ControlOp.TheVariants as control
use Rattle.lg_op.specs.declared.op.LastOperand.{LastOperand}
use Rattle.lg_op.specs.declared.op.LastOperand.TheVariants as last_operand
use Rattle.lg_op.specs.declared.op.Op.{Op}
use Rattle.lg_op.specs.declared.op.Op.TheVariants as op
use Rattle.lg_op.specs.declared.op.PlainOp.{PlainOp}
use Rattle.lg_op.specs.declared.op.PlainOp.TheVariants as plain
use Rattle.lg_op.specs.declared.operand.Operand.{Operand}
use Rattle.lg_op.specs.declared.operand.Operand.TheVariants as operand
use Rattle.lg_op.specs.declared.operand.Reg.{Reg}
use Rattle.lg_sel.proofs.FamilyLemmas.{HoldsOfFamilies, of-node}
use Rattle.lg_sel.proofs.NodeFitLemmas.{few-staged}
use Rattle.lg_sel.proofs.OperandLemmas.{has-words}
use Rattle.lg_sel.proofs.PlaceLemmas.{and-first}
use Rattle.lg_sel.specs.Families.{staged_count}
use Rattle.lg_sel.specs.Selected.{IsFrame}
use Rattle.lg_sel.specs.declared.reach.Reach.{Reach}
use Rattle.lg_carry.specs.Values.ValueNodes.{is_value}
use Rattle.lg_selx.proofs.NeedLemmas.{value-is-none, made-values, made-access}
use Rattle.lg_selx.proofs.SizeLemmas.{bytes-few}
use Rattle.lg_selx.specs.Items.{x86_families, node_items}
use Rattle.lg_selx.specs.Selected.{needs, IsAsked}
use Rattle.lg_selx.specs.Control.Alignments.{padding, idle}
use Rattle.lg_selx.specs.Control.Branches.{comparison, is_difference, far_number, pointer_comparison, wide_comparison, word_comparison, before_branch}
use Rattle.lg_selx.specs.Control.ControlItems.{branch_items, sum_items, jump_items, call_items, result_items, ret_items, register_jump_items, register_call_items, leap_items, align_items, plain_items, control_items}
use Rattle.lg_sel.proofs.OfControl.StoreLemmas.{stores-long}
use Rattle.lg_sel.specs.Control.Stores.{kept_registers, home_registers}
use Rattle.lg_selx.proofs.OfControl.FitLemmas.{kept-few, homes-few}
use Rattle.lg_selx.specs.Control.Prologs.{store_word, stores_below, stored_code, lowered, prolog_code}
use Rattle.lg_selx.specs.Control.Returns.{restores, leave_code, restore_code, return_code}
use Rattle.lg_selx.specs.Control.SumBranches.{sum_row, sum_number, number_sum, before_sum_branch}
use Rattle.lg_selx_values.proofs.ItemLemmas.{words_append, words-ones}
use Rattle.lg_selx_values.specs.Items.{words_in, blanks, ones}
use Rattle.lg_selx_values.specs.declared.items.Item.{Item}
use Rattle.lg_selx.specs.Memory.VariableArgumentCode.{next_argument_code}
use Rattle.lg_selx.proofs.OfMemory.FitLemmas.{memory-items-fit}
use Rattle.lg_selx_values.proofs.ValueFitLemmas.{value-items-fit}
use Rattle.lg_selx_values.specs.Scratch.{again}
use Rattle.lg_op.specs.declared.operand.Reg.TheVariants.{R0}
use Rattle.lg_temp.proofs.ChoiceLemmas.{choices-are-for}
use Rattle.lg_temp.specs.Abis.{register_of}
use Rattle.lg_temp.specs.Chosen.{around}
use Rattle.lg_temp.specs.declared.choice.Choice.{Choice}
use Rattle.std.proofs.lemmas.List.{length-take}
use Rattle.lg_x86.specs.declared.instruction.BareOp.TheVariants.{Ret}
use Rattle.lg_x86.specs.declared.instruction.ImmOp.TheVariants.{Andi, Cmpi}
use Rattle.lg_x86.specs.declared.instruction.Instr.{Instr}
use Rattle.lg_x86.specs.declared.instruction.Instr.TheVariants as instr

abbrev Small : List Item → Type 0
Small xs = length (blanks xs) ≤ 256

-- 25 instructions have 250 bytes
few-small : (xs : List Item) (n : ℕ) → words_in xs ≤ n → n ≤ 25 → Small xs
few-small xs n few most = let b = bytes-few xs in omega (arith, b, few, most)

code-small : (code : List Instr) (n : ℕ) → length code ≤ n → n ≤ 25 → Small (ones code)
code-small code n few most = let w = words-ones code in few-small (ones code) n (omega (arith, w, few)) most

none-small : Small []
none-small = omega arith

-- ---- alignments: as many bytes as no-ops
idle-bytes : (k : ℕ) → length (blanks (ones (idle k))) ≡ k
idle-bytes zero = refl
idle-bytes (suc k) = ap suc (idle-bytes k)

one-of : (n : ℕ) → is_alignment n ≡ true → (n ≡ 1) ⊎ ((n ≡ 2) ⊎ ((n ≡ 4) ⊎ ((n ≡ 8) ⊎ ((n ≡ 16) ⊎ ((n ≡ 32) ⊎ (n ≡ 64))))))
one-of n h = grind (arith, h)

padding-few : (at n : ℕ) → is_alignment n ≡ true → padding at n ≤ 63
padding-few at n h =
    ⊎_elim (λ e. subst (λ (k : ℕ). padding at k ≤ 63) (sym e) (grind arith))
    (λ r. ⊎_elim (λ e. subst (λ (k : ℕ). padding at k ≤ 63) (sym e) (grind arith))
    (λ r. ⊎_elim (λ e. subst (λ (k : ℕ). padding at k ≤ 63) (sym e) (grind arith))
    (λ r. ⊎_elim (λ e. subst (λ (k : ℕ). padding at k ≤ 63) (sym e) (grind arith))
    (λ r. ⊎_elim (λ e. subst (λ (k : ℕ). padding at k ≤ 63) (sym e) (grind arith))
    (λ r. ⊎_elim (λ e. subst (λ (k : ℕ). padding at k ≤ 63) (sym e) (grind arith))
    (λ e. subst (λ (k : ℕ). padding at k ≤ 63) (sym e) (grind arith)) r) r) r) r) r) (one-of n h)

aligned-small : (at : ℕ) (xs : List Operand) → admit (forms_of (op.Plain plain.Align)) xs ≡ true → Small (align_items at xs)
aligned-small at (operand.Number n ∷ []) a =
    let p = padding-few at n (and-first (is_alignment n) true a) in let b = idle-bytes (padding at n) in omega (arith, p, b)
aligned-small at xs a = by xs a
  where
    by : (xs : List Operand) → admit (forms_of (op.Plain plain.Align)) xs ≡ true → Small (align_items at xs)
    by (operand.Number n ∷ []) a = let p = padding-few at n (and-first (is_alignment n) true a) in let b = idle-bytes (padding at n) in omega (arith, p, b)
    by xs a = omega arith

-- ---- branches
pointed-few : (o : Condition) (frame v : ℕ) → length (pointer_comparison o frame v) ≤ 3
pointed-few o frame v = by (is_difference o)
  where
    by : (b : Bool) → length (if b then instr.Imm Cmpi 5 (far_number v) ∷ [] else instr.Imm Andi 5 (pos (v % 2 ^ 30)) ∷ again frame) ≤ 3
    by true = omega arith
    by false = omega arith

wide-few : (o : Condition) (frame a v : ℕ) → length (wide_comparison o frame a v) ≤ 3
wide-few o frame a v = by (a == 5)
  where
    by : (b : Bool) → length (if b then pointer_comparison o frame v else number_row 5 v ∷ (instr.RmReg (comparison o) a 5 ∷ again frame)) ≤ 3
    by true = pointed-few o frame v
    by false = omega arith

compared-few : (o : Condition) (frame a : ℕ) (x : Option ℕ) → length (word_comparison o frame a x) ≤ 3
compared-few o frame a None = omega arith
compared-few o frame a (Some v) = by (is_difference o && is_half v)
  where
    by : (b : Bool) → length (if b then instr.Imm Cmpi a (signed_view v) ∷ [] else wide_comparison o frame a v) ≤ 3
    by true = omega arith
    by false = wide-few o frame a v

before-few : (frame : ℕ) (o : Condition) (a : Reg) (x : Operand) → length (before_branch frame o a x) ≤ 3
before-few frame o a (operand.Reg b) = omega arith
before-few frame o a (operand.Number v) = compared-few o frame (register_of X86_64 a) (Some v)
before-few frame o a (operand.Host name) = compared-few o frame (register_of X86_64 a) (Some (host_address name))
before-few frame o a (operand.Label l) = omega arith
before-few frame o a (operand.Slot k) = omega arith

added-few : (o : BranchSumOp) (frame a v : ℕ) → length (number_sum o frame a v) ≤ 3
added-few o frame a v = by (is_half v)
  where
    by : (b : Bool) → length (if b then instr.Imm (sum_number o) a (signed_view v) ∷ [] else number_row 5 v ∷ (instr.RmReg (sum_row o) a 5 ∷ again frame)) ≤ 3
    by true = omega arith
    by false = omega arith

before-sum-few : (frame : ℕ) (o : BranchSumOp) (a : Reg) (x : Operand) → length (before_sum_branch frame o a x) ≤ 3
before-sum-few frame o a (operand.Reg b) = omega arith
before-sum-few frame o a (operand.Number v) = added-few o frame (register_of X86_64 a) v
before-sum-few frame o a (operand.Host name) = added-few o frame (register_of X86_64 a) (host_address name)
before-sum-few frame o a (operand.Label l) = omega arith
before-sum-few frame o a (operand.Slot k) = omega arith

front-small : (code : List Instr) (x : Item) → length code ≤ 3 → Small (ones code ++ x ∷ [])
front-small code x few = let w = words_append (ones code) (x ∷ []) in let l = words-ones code in few-small (ones code ++ x ∷ []) 4 (omega (arith, w, l, few)) (omega arith)

branched-small : (reach : Reach) (frame : ℕ) (o : Condition) (xs : List Operand) → Small (branch_items reach frame o xs)
branched-small reach frame o (operand.Label l ∷ operand.Reg a ∷ x ∷ []) = front-small (before_branch frame o a x) _ (before-few frame o a x)
branched-small reach frame o xs = none-small

summed-small : (reach : Reach) (frame : ℕ) (o : BranchSumOp) (xs : List Operand) → Small (sum_items reach frame o xs)
summed-small reach frame o (operand.Label l ∷ operand.Reg a ∷ x ∷ []) = front-small (before_sum_branch frame o a x) _ (before-sum-few frame o a x)
summed-small reach frame o xs = none-small

-- ---- jumps, calls and returns
jumped-small : (reach : Reach) (xs : List Operand) → Small (jump_items reach xs)
jumped-small reach (operand.Label l ∷ []) = few-small (jump_items reach (operand.Label l ∷ [])) 1 (omega arith) (omega arith)
jumped-small reach xs = none-small

called-small : (xs : List Operand) → Small (call_items xs)
called-small (operand.Label l ∷ []) = few-small (call_items (operand.Label l ∷ [])) 1 (omega arith) (omega arith)
called-small (operand.Host name ∷ []) = few-small (call_items (operand.Host name ∷ [])) 3 (omega arith) (omega arith)
called-small xs = none-small

result-few : (x : Operand) → words_in (result_items x) ≤ 1
result-few (operand.Reg R0) = omega arith
result-few x = omega arith

return-long : (saved : ℕ) → length (return_code saved) ≤ 6
return-long saved =
    let all = length-append (restore_code saved) (instr.Bare Ret ∷ []) in
    let front = length-append (restores saved) leave_code in
    let most = length-take saved (restores 3) in omega (arith, all, front, most)

returned-small : (saved : ℕ) (xs : List Operand) → Small (ret_items saved xs)
returned-small saved (x ∷ []) =
    let w = words_append (result_items x) (ones (return_code saved)) in
    let r = result-few x in
    let l = words-ones (return_code saved) in
    let long = return-long saved in few-small (result_items x ++ ones (return_code saved)) 7 (omega (arith, w, r, l, long)) (omega arith)
returned-small saved xs = none-small

register-jumped-small : (xs : List Operand) → Small (register_jump_items xs)
register-jumped-small (operand.Reg a ∷ []) = few-small (register_jump_items (operand.Reg a ∷ [])) 1 (omega arith) (omega arith)
register-jumped-small xs = none-small

register-called-small : (xs : List Operand) → Small (register_call_items xs)
register-called-small (operand.Reg a ∷ []) = few-small (register_call_items (operand.Reg a ∷ [])) 3 (omega arith) (omega arith)
register-called-small xs = none-small

leaps-small : (reach : Reach) (saved : ℕ) (o : ControlOp) (last : LastOperand) (xs : List Operand) → Small (leap_items reach saved o last xs)
leaps-small reach saved control.Jmp last_operand.Immediate xs = jumped-small reach xs
leaps-small reach saved control.Jmp last_operand.Register xs = register-jumped-small xs
leaps-small reach saved control.Call last_operand.Immediate xs = called-small xs
leaps-small reach saved control.Call last_operand.Register xs = register-called-small xs
leaps-small reach saved control.Finish last_operand.Immediate xs = called-small xs
leaps-small reach saved control.Finish last_operand.Register xs = register-called-small xs
leaps-small reach saved control.Ret last xs = returned-small saved xs
leaps-small reach saved control.Pusharg last xs = none-small

pub prolog-long : (frame homes saved : ℕ) → length (prolog_code saved frame homes) ≤ 12
prolog-long frame homes saved =
    let kept : List ℕ = kept_registers X86_64 saved in
    let read : List ℕ = home_registers X86_64 homes in
    let all = length-append (stored_code saved homes) (lowered frame) in
    let both = length-append (stores_below kept 2) (stores_below read 5) in
    let first = stores-long store_word kept 2 in
    let last = stores-long store_word read 5 in
    let few = kept-few saved in
    let most = homes-few homes in omega (arith, all, both, first, last, few, most)

plain-small : (o : PlainOp) (xs : List Operand) (frame homes saved at : ℕ) → admit (forms_of (op.Plain o)) xs ≡ true → Small (plain_items o xs frame homes saved at)
plain-small plain.Prolog xs frame homes saved at a = code-small (prolog_code saved frame homes) 12 (prolog-long frame homes saved) (omega arith)
plain-small plain.Epilog xs frame homes saved at a = code-small (return_code saved) 6 (return-long saved) (omega arith)
plain-small plain.Ret xs frame homes saved at a = code-small (return_code saved) 6 (return-long saved) (omega arith)
plain-small plain.Align xs frame homes saved at a = aligned-small at xs a
plain-small o xs frame homes saved at a = none-small

control-small : (reach : Reach) (o : Op) (xs : List Operand) (frame homes saved at : ℕ) → admit (forms_of o) xs ≡ true → Small (control_items reach o xs frame homes saved at)
control-small reach (op.Branch o last) xs frame homes saved at a = branched-small reach frame o xs
control-small reach (op.BranchSum o last) xs frame homes saved at a = summed-small reach frame o xs
control-small reach (op.Control o last) xs frame homes saved at a = leaps-small reach saved o last xs
control-small reach (op.Plain o) xs frame homes saved at a = plain-small o xs frame homes saved at a
control-small reach o xs frame homes saved at a = none-small

-- ---- every node
module _ (homes saved : ℕ) (reach : Reach) (frame : ℕ) (sized : IsFrame frame) (live : Reg → Bool) (staged : List Bool) (choices : List Choice) (labels place : ℕ) where
  abbrev IsSmall : Node → List Item → Type 0
  IsSmall n xs = IsAsked n live staged choices labels → Small xs

  near : frame < 0x40000000
  near = let h = sized.high in omega (arith, h)

  values-small : (n : Node) → is_value n.op ≡ true → IsSmall n ((x86_families homes saved reach).values frame n choices)
  values-small n is k =
      let set = k.chosen.set in
      let are = made-values n live set choices (value-is-none n.op is) (choices-are-for (around X86_64 n live set) (needs n.op) choices k.chosen.chosen) in
      let fit = value-items-fit frame n live set choices sized.low sized.high k.words are in
      let s = fit.small in omega (arith, s)

  families-small : HoldsOfFamilies (x86_families homes saved reach) IsSmall frame choices staged place
  families-small = record {
    values = values-small;
    loads = λ n t at e k. few-small _ 4 (memory-items-fit.loads frame t at n near (has-words n k.words)).short (omega arith);
    stores = λ n t at e k.
        let set = k.chosen.set in
        let are = made-access n (op.Store t at) live set choices e (choices-are-for (around X86_64 n live set) (needs n.op) choices k.chosen.chosen) in
        few-small _ 5 (memory-items-fit.stores t at n live set choices (has-words n k.words) are).short (omega arith);
    arguments = λ n t e k. few-small _ 1 (memory-items-fit.arguments frame t n near).short (omega arith);
    next_arguments = λ n e k. few-small (ones (next_argument_code n)) 8 (memory-items-fit.next_arguments n).short (omega arith);
    pushes = λ n last e k. few-small _ 3 (memory-items-fit.pushes frame (staged_count staged) n near (few-staged n live staged choices labels last k e) (has-words n k.words 0)).short (omega arith);
    controls = λ n is k. control-small reach n.op n.operands frame homes saved place k.formed.forms;
  }

  pub items-small : (n : Node) → IsSmall n (node_items homes saved reach n frame choices staged place)
  items-small = of-node (x86_families homes saved reach) IsSmall frame choices staged place families-small
