-- The items of the nodes that branch, jump, call and return, of `prolog`, `.align` and of those without code; none but those of a `prolog` store.
use Rattle.std.proofs.Common.{◌≡◌, ℕ, zero, suc, ◌+◌, ◌-◌, ◌≤◌, Bool, true, false, List, [], ◌∷◌, ◌++◌, refl, arith, length}
use Rattle.std.specs.Prelude.{◌/◌, ◌%◌, pos, nat_lt, if◌then◌else◌}
use Rattle.lg_a64.specs.declared.instruction.BranchOp.TheVariants.{B, Bl}
use Rattle.lg_a64.specs.declared.instruction.BranchRegOp.{BranchRegOp}
use Rattle.lg_a64.specs.declared.instruction.BranchRegOp.TheVariants.{Br, Blr}
use Rattle.lg_a64.specs.declared.instruction.Cond.{Cond}
use Rattle.lg_a64.specs.declared.instruction.ImmOp.TheVariants.{Addsi, Subi, Subsi, Addi}
use Rattle.lg_a64.specs.declared.instruction.Instr.{Instr}
use Rattle.lg_a64.specs.declared.instruction.Instr.TheVariants as instr
use Rattle.lg_a64.specs.declared.instruction.RegOp.TheVariants.{Orr}
use Rattle.lg_base.specs.HostNames.{host_address}
use Rattle.lg_base.specs.declared.target.Target.TheVariants.{Aarch64}
use Rattle.lg_sela_values.specs.Processor.A64Rows.{link, zero_register, frame_pointer, stack_pointer}
use Rattle.lg_op.specs.declared.op.BranchSumOp.{BranchSumOp}
use Rattle.lg_op.specs.declared.op.BranchSumOp.TheVariants as sum
use Rattle.lg_op.specs.declared.op.Condition.{Condition}
use Rattle.lg_op.specs.declared.op.Condition.TheVariants as condition
use Rattle.lg_op.specs.declared.op.ControlOp.{ControlOp}
use Rattle.lg_op.specs.declared.op.ControlOp.TheVariants as control
use Rattle.lg_op.specs.declared.op.LastOperand.{LastOperand}
use Rattle.lg_op.specs.declared.op.LastOperand.TheVariants as last_operand
use Rattle.lg_op.specs.declared.op.Op.{Op}
use Rattle.lg_op.specs.declared.op.Op.TheVariants as op
use Rattle.lg_op.specs.declared.op.PlainOp.TheVariants as plain_op
use Rattle.lg_op.specs.declared.operand.Label.{Label}
use Rattle.lg_op.specs.declared.operand.Operand.{Operand}
use Rattle.lg_op.specs.declared.operand.Operand.TheVariants as operand
use Rattle.lg_sel.proofs.LabelLemmas.{Passes, AllPass}
use Rattle.lg_sel.proofs.StoreLemmas as stores
use Rattle.lg_sel.specs.Stores.{own_stores}
use Rattle.lg_sela.specs.Stores.{a64_stores}
use Rattle.lg_carry.specs.Nodes.Immediates.{immediate}
use Rattle.lg_sel.specs.declared.reach.Reach.{Reach}
use Rattle.lg_sel.specs.declared.reach.Reach.TheVariants.{Short, Near, Far}
use Rattle.lg_sela.proofs.Emissions.{NoneStores, Emits, none, append, more, either, instructions, plain, number, address, branch, branch_if, front, behind}
use Rattle.lg_sela.specs.Control.Alignments.{padding, idle, align_code}
use Rattle.lg_base.specs.Words.{negated}
use Rattle.lg_sela_values.specs.BinaryCode.{is_small}
use Rattle.lg_sela.specs.Control.Branches.{comparison, is_held, number_comparison, taken, turned}
use Rattle.lg_sela.specs.Control.ControlItems.{second_register, word_items, second_items, compared_items, comparing, leads_items, branch_if_items, branch_items, sum_items, jump_items, call_items, result_items, ret_items, register_leap_items, leap_items, align_items, control_items}
use Rattle.lg_sela.specs.Control.Prologs.{prolog_code, framed_code, is_near, first_registers, home_registers, stores_below, store_word}
use Rattle.lg_sel.proofs.OfControl.StoreLemmas.{first-most, stores-long}
use Rattle.lg_sela.specs.Control.RegisterLeaps.{register_leap_code}
use Rattle.lg_sela.specs.Control.Returns.{result, restores, link_load, near_return, far_return, leaving_code, return_code}
use Rattle.lg_sela.specs.Control.SumBranches.{sum_instruction, sum_taken}
use Rattle.lg_sela_values.specs.declared.items.Item.{Item}
use Rattle.lg_sela_values.specs.declared.items.Item.TheVariants.{Branch}
use Rattle.lg_temp.specs.Abis.{register_of}

-- ---- instructions
comparison-none : (o : Condition) (a b : ℕ) → NoneStores (comparison o a b ∷ [])
comparison-none condition.Ms a b = refl
comparison-none o a b = refl

held-none : (a v : ℕ) → NoneStores (number_comparison a v ∷ [])
held-none a v = by (is_small v)
  where
    by : (b : Bool) → NoneStores ((if b then instr.Imm Subsi zero_register a v false else instr.Imm Addsi zero_register a (negated v) false) ∷ [])
    by true = refl
    by false = refl

comparing-none : (o : Condition) (a : ℕ) (x : Operand) → NoneStores (comparing o a x ∷ [])
comparing-none o a (operand.Number v) = by (is_held o v)
  where
    by : (b : Bool) → NoneStores ((if b then number_comparison a v else comparison o a link) ∷ [])
    by true = held-none a v
    by false = comparison-none o a link
comparing-none o a (operand.Reg b) = comparison-none o a (register_of Aarch64 b)
comparing-none o a (operand.Host name) = comparison-none o a link
comparing-none o a x = comparison-none o a link

sum-none : (o : BranchSumOp) (a b : ℕ) → NoneStores (sum_instruction o a b ∷ [])
sum-none sum.OverflowAdd a b = refl
sum-none o a b = refl

idle-none : (k : ℕ) → NoneStores (idle k)
idle-none zero = refl
idle-none (suc k) = idle-none k

-- a `prolog` stores the link, FP, and this many others
prolog-few : (saved frame homes : ℕ) → stores.stores_among a64_stores (prolog_code saved frame homes) ≤ 2 + length (home_registers homes) + saved
prolog-few saved frame homes = by (is_near frame) (nat_lt (frame - 112) 4096)
  where
    framed : (first : ℕ) (rest : List Instr) → NoneStores rest → stores.stores_among a64_stores (framed_code saved first homes rest) ≤ 2 + length (home_registers homes) + saved
    framed first rest free =
        let front : List Instr = stores_below first (first_registers saved) 0 in
        let end : List Instr = instr.Imm Addi frame_pointer stack_pointer (first - 16) false ∷ rest in
        let back : List Instr = stores_below first (home_registers homes) 5 ++ end in
        let both : stores.stores_among a64_stores (framed_code saved first homes rest) ≡ stores.stores_among a64_stores front + stores.stores_among a64_stores back =
        stores.among-append a64_stores front back in
        let most = stores.among-length a64_stores front in
        let long = stores-long (store_word first) (first_registers saved) 0 in
        let h : stores.stores_among a64_stores back ≤ length (home_registers homes) = stores.among-stores a64_stores (store_word first) (home_registers homes) 5 end free in
        let few = first-most Aarch64 link saved in omega (arith, both, most, long, h, few)

    by : (b b' : Bool) → stores.stores_among a64_stores (if b then framed_code saved frame homes [] else framed_code saved 112 homes
        (if b' then instr.Imm Subi stack_pointer stack_pointer (frame - 112) false ∷ []
        else instr.Imm Subi stack_pointer stack_pointer ((frame - 112) / 4096 % 4096) true ∷ instr.Imm Subi stack_pointer stack_pointer ((frame - 112) % 4096) false ∷ [])) ≤ 2 + length (home_registers homes) + saved
    by true b' = framed frame [] refl
    by false true = framed 112 _ refl
    by false false = framed 112 _ refl

-- what leads to a label
leads-emit : (reach : Reach) (is : ℕ → Bool) (holds : Cond) (l : Label) → is l.0 ≡ true → Emits reach is 1 0 (leads_items reach holds l)
leads-emit Short is holds l h = branch_if Short is holds l.0 h
leads-emit Near is holds l h = branch_if Near is holds l.0 h
leads-emit Far is holds l h = front Far is 1 0 (instr.BranchIf (turned holds) (pos 2) ∷ []) (Branch B l.0 ∷ []) refl (branch Far is B l.0 h)

-- ---- items
restores-none : (saved : ℕ) → NoneStores (restores saved)
restores-none (suc (suc (suc (suc n)))) = refl
restores-none saved = refl

return-none : (saved frame : ℕ) → NoneStores (return_code saved frame)
return-none saved frame = stores.none-append a64_stores (restores saved) (leaving_code frame) (restores-none saved) (by (nat_lt frame 4096))
  where
    by : (b : Bool) → NoneStores (link_load ∷ (if b then near_return frame else far_return))
    by true = refl
    by false = refl

module _ (reach : Reach) (is : ℕ → Bool) where
  word : (t : ℕ) (x : Operand) → Emits reach is 0 0 (word_items t (immediate x))
  word t (operand.Number v) = number reach is 0 t v
  word t (operand.Host name) = number reach is 0 t (host_address name)
  word t (operand.Reg r) = none reach is 0 0
  word t x = none reach is 0 0

  compared : (x : Operand) → Emits reach is 0 0 (second_items x)
  compared (operand.Reg r) = none reach is 0 0
  compared (operand.Number v) = word link (operand.Number v)
  compared (operand.Host name) = word link (operand.Host name)
  compared (operand.Label l) = word link (operand.Label l)
  compared (operand.Slot k) = word link (operand.Slot k)

  put-compared : (o : Condition) (x : Operand) → Emits reach is 0 0 (compared_items o x)
  put-compared o (operand.Number v) = either reach is 0 0 (is_held o v) [] (second_items (operand.Number v)) (none reach is 0 0) (compared (operand.Number v))
  put-compared o (operand.Reg r) = compared (operand.Reg r)
  put-compared o (operand.Host name) = compared (operand.Host name)
  put-compared o (operand.Label l) = compared (operand.Label l)
  put-compared o (operand.Slot k) = compared (operand.Slot k)

  branches : (sets : Instr) (holds : Cond) (l : Label) → NoneStores (sets ∷ []) → is l.0 ≡ true → Emits reach is 1 0 (branch_if_items reach sets holds l)
  branches sets holds l few h = front reach is 1 0 (sets ∷ []) (leads_items reach holds l) few (leads-emit reach is holds l h)

  branched : (o : Condition) (xs : List Operand) → AllPass is xs → Emits reach is 1 0 (branch_items reach o xs)
  branched o (operand.Label l ∷ operand.Reg a ∷ x ∷ []) h =
      let r : ℕ = register_of Aarch64 a in
      append reach is 0 1 0 0 (compared_items o x) (branch_if_items reach (comparing o r x) (taken o) l) (put-compared o x) (branches (comparing o r x) (taken o) l (comparing-none o r x) h.0)
  branched o xs h = none reach is 1 0

  summed : (o : BranchSumOp) (xs : List Operand) → AllPass is xs → Emits reach is 1 0 (sum_items reach o xs)
  summed o (operand.Label l ∷ operand.Reg a ∷ x ∷ []) h =
      let r : ℕ = register_of Aarch64 a in
      let s : ℕ = second_register x in
      append reach is 0 1 0 0 (second_items x) (branch_if_items reach (sum_instruction o r s) (sum_taken o) l) (compared x) (branches (sum_instruction o r s) (sum_taken o) l (sum-none o r s) h.0)
  summed o xs h = none reach is 1 0

  wider : (xs : List Item) → Emits reach is 0 0 xs → Emits reach is 1 0 xs
  wider xs a = more reach is 0 1 0 0 xs (omega arith) (omega arith) a

  jumped : (xs : List Operand) → AllPass is xs → Emits reach is 1 0 (jump_items xs)
  jumped (operand.Label l ∷ []) h = branch reach is B l.0 h.0
  jumped xs h = none reach is 1 0

  called : (xs : List Operand) → AllPass is xs → Emits reach is 1 0 (call_items xs)
  called (operand.Label l ∷ []) h = branch reach is Bl l.0 h.0
  called (operand.Host name ∷ []) h =
      behind reach is 1 0 (word_items link (immediate (operand.Host name))) (instr.BranchReg Blr link ∷ []) (wider (word_items link (immediate (operand.Host name))) (word link (operand.Host name))) refl
  called xs h = none reach is 1 0

  result-emits : (x : Operand) → Passes is x → Emits reach is 1 0 (result_items x)
  result-emits (operand.Reg a) h = plain reach is 1 (instr.Reg Orr result zero_register (register_of Aarch64 a) ∷ []) refl
  result-emits (operand.Label l) h = address reach is result l.0 h
  result-emits (operand.Number v) h = wider (result_items (operand.Number v)) (word result (operand.Number v))
  result-emits (operand.Host name) h = wider (result_items (operand.Host name)) (word result (operand.Host name))
  result-emits (operand.Slot k) h = wider (result_items (operand.Slot k)) (word result (operand.Slot k))

  returned : (frame saved : ℕ) (xs : List Operand) → AllPass is xs → Emits reach is 1 0 (ret_items frame saved xs)
  returned frame saved (x ∷ []) h = behind reach is 1 0 (result_items x) (return_code saved frame) (result-emits x h.0) (return-none saved frame)
  returned frame saved xs h = none reach is 1 0

  leapt : (o : BranchRegOp) (xs : List Operand) → Emits reach is 1 0 (register_leap_items o xs)
  leapt o (operand.Reg a ∷ []) = plain reach is 1 (register_leap_code o a) refl
  leapt o xs = none reach is 1 0

  leaps : (frame saved : ℕ) (o : ControlOp) (last : LastOperand) (xs : List Operand) → AllPass is xs → Emits reach is 1 0 (leap_items frame saved o last xs)
  leaps frame saved control.Jmp last_operand.Immediate xs h = jumped xs h
  leaps frame saved control.Jmp last_operand.Register xs h = leapt Br xs
  leaps frame saved control.Call last_operand.Immediate xs h = called xs h
  leaps frame saved control.Call last_operand.Register xs h = leapt Blr xs
  leaps frame saved control.Finish last_operand.Immediate xs h = called xs h
  leaps frame saved control.Finish last_operand.Register xs h = leapt Blr xs
  leaps frame saved control.Ret last xs h = returned frame saved xs h
  leaps frame saved control.Pusharg last xs h = none reach is 1 0

  aligned : (at : ℕ) (xs : List Operand) → Emits reach is 1 0 (align_items at xs)
  aligned at (operand.Number n ∷ []) = plain reach is 1 (align_code at n) (idle-none (padding at n))
  aligned at xs = none reach is 1 0

  pub controls-emit : (o : Op) (xs : List Operand) (frame homes saved at : ℕ) → AllPass is xs → Emits reach is 1 (own_stores Aarch64 homes saved o) (control_items reach o xs frame homes saved at)
  controls-emit (op.Branch o last) xs frame homes saved at h = branched o xs h
  controls-emit (op.BranchSum o last) xs frame homes saved at h = summed o xs h
  controls-emit (op.Control o last) xs frame homes saved at h = more reach is 1 1 0 (own_stores Aarch64 homes saved (op.Control o last)) (control_items reach (op.Control o last) xs frame homes saved at) (omega arith) (omega arith) (leaps frame saved o last xs h)
  controls-emit (op.Plain plain_op.Prolog) xs frame homes saved at h = instructions reach is 1 (2 + length (home_registers homes) + saved) (prolog_code saved frame homes) (prolog-few saved frame homes)
  controls-emit (op.Plain plain_op.Epilog) xs frame homes saved at h = plain reach is 1 (return_code saved frame) (return-none saved frame)
  controls-emit (op.Plain plain_op.Ret) xs frame homes saved at h = plain reach is 1 (return_code saved frame) (return-none saved frame)
  controls-emit (op.Plain plain_op.Align) xs frame homes saved at h = aligned at xs
  controls-emit (op.Plain plain_op.Movi) xs frame homes saved at h = none reach is 1 0
  controls-emit (op.Plain o) xs frame homes saved at h = none reach is 1 0
  controls-emit o xs frame homes saved at h = none reach is 1 (own_stores Aarch64 homes saved o)
