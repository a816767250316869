-- The items of the nodes can be appended to a buffer.
use Rattle.std.proofs.Common.{◌≡◌, ℕ, zero, suc, ◌+◌, ◌*◌, ◌^◌, ◌<◌, ◌≤◌, Bool, true, false, List, [], ◌∷◌, ◌++◌, refl, sym, ap, subst, arith, length, length-append}
use Rattle.std.specs.Prelude.{◌||◌, ◌-◌, ◌/◌, ◌%◌, nat_lt, take, if◌then◌else◌}
use Rattle.std.specs.List.{list_all}
use Rattle.std.proofs.lemmas.Bool.{and_parts}
use Rattle.lg_base.specs.Conventions.{argument_registers}
use Rattle.lg_base.specs.HostNames.{host_address}
use Rattle.lg_base.specs.declared.target.Target.TheVariants.{Aarch64}
use Rattle.lg_op.specs.Forms.{is_alignment, admits, admit, last_form, forms_of}
use Rattle.lg_op.specs.declared.form.Form.TheVariants as form
use Rattle.lg_op.specs.declared.op.BranchSumOp.{BranchSumOp}
use Rattle.lg_op.specs.declared.op.BranchSumOp.TheVariants as sum
use Rattle.lg_op.specs.declared.op.Condition.{Condition}
use Rattle.lg_op.specs.declared.op.Condition.TheVariants as condition
use Rattle.lg_op.specs.declared.op.ControlOp.TheVariants as control
use Rattle.lg_op.specs.declared.op.LastOperand.{LastOperand}
use Rattle.lg_op.specs.declared.op.LastOperand.TheVariants as last_operand
use Rattle.lg_op.specs.declared.op.Op.{Op}
use Rattle.lg_op.specs.declared.op.Op.TheVariants as op
use Rattle.lg_op.specs.declared.op.PlainOp.TheVariants as plain
use Rattle.lg_op.specs.declared.operand.Label.{Label}
use Rattle.lg_op.specs.declared.operand.Operand.{Operand}
use Rattle.lg_op.specs.declared.operand.Operand.TheVariants as operand
use Rattle.lg_op.specs.declared.operand.Reg.{Reg}
use Rattle.lg_a64.specs.Spelling.{IsInstr}
use Rattle.lg_a64.specs.declared.instruction.BranchOp.{BranchOp}
use Rattle.lg_a64.specs.declared.instruction.BranchOp.TheVariants.{B, Bl}
use Rattle.lg_a64.specs.declared.instruction.BranchRegOp.{BranchRegOp}
use Rattle.lg_a64.specs.declared.instruction.BranchRegOp.TheVariants.{Br, Blr}
use Rattle.lg_a64.specs.declared.instruction.Cond.{Cond}
use Rattle.lg_a64.specs.declared.instruction.ImmOp.TheVariants.{Addi, Addsi, Subi, Subsi}
use Rattle.lg_a64.specs.declared.instruction.Instr.{Instr}
use Rattle.lg_a64.specs.declared.instruction.Instr.TheVariants as instr
use Rattle.lg_a64.specs.declared.instruction.RegOp.TheVariants.{Orr}
use Rattle.lg_temp.specs.Abis.{register_of}
use Rattle.lg_carry.specs.Carries.{leaps}
use Rattle.lg_sela_values.specs.Processor.A64Rows.{frame_pointer, stack_pointer, zero_register, link}
use Rattle.lg_sela_values.specs.Processor.Numbers.{number_code}
use Rattle.lg_sela_values.proofs.OfProcessor.NumberCodeLemmas.{numbers-are-loaded}
use Rattle.lg_sela_values.proofs.OfProcessor.RegisterLemmas.{register-small}
use Rattle.lg_sel.proofs.OfControl.StoreLemmas.{take-all}
use Rattle.lg_sel.proofs.OfControl.ControlLemmas.{differ, never, never-sum, host-small}
use Rattle.lg_sela_values.specs.declared.items.Item.{Item}
use Rattle.lg_sela_values.specs.declared.items.Item.TheVariants.{One, Branch}
use Rattle.lg_sela_values.specs.Items.{a64_holes, IsItem, NamesOneOf, AreItems, ones}
use Rattle.lg_sela_values.proofs.ItemLemmas.{items-append, items-ones, fixes-ones, ones-append}
use Rattle.lg_sel.proofs.EmittedLemmas.{nothing-emitted, ones-emitted, ones-in-front}
use Rattle.lg_sel.specs.declared.reach.Reach.{Reach}
use Rattle.lg_sel.specs.declared.reach.Reach.TheVariants.{Short, Near, Far}
use Rattle.lg_sela.specs.Control.Alignments.{padding, idle, align_code}
use Rattle.lg_base.specs.Words.{negated}
use Rattle.lg_sela_values.specs.BinaryCode.{is_small}
use Rattle.lg_sela.specs.Control.Branches.{comparison, is_held, number_comparison, taken}
use Rattle.lg_carry.specs.Nodes.Operands.{IsGiven, AreGiven}
use Rattle.lg_sela.specs.Control.ControlFits.{AreEmitted, ControlItemsFit}
use Rattle.lg_sela.specs.Control.ControlItems.{second_register, second_items, comparing, branch_if_items, register_leap_items, control_items, is_control}
use Rattle.lg_sela.specs.Control.ControlLaws.{ends_in_label}
use Rattle.lg_sela.specs.Control.Prologs.{first_registers, home_registers, stores_below, fall_code, framed_code, is_near, prolog_code}
use Rattle.lg_sela.specs.Control.RegisterLeaps.{register_leap_code}
use Rattle.lg_sela.specs.Control.Returns.{result, kept_loads, restores, near_return, far_return, leaving_code, return_code}
use Rattle.lg_sela.specs.Control.SumBranches.{sum_instruction, sum_taken}
use Rattle.lg_sela.specs.Control.TwoWays.{second_code, compared_code}
use Rattle.lg_sela.proofs.OfControl.ControlLemmas.{second-is, compared-is}
use Rattle.lg_sela.proofs.OfControl.StackFallLemmas.{near-size}

-- ---- instructions alone have no fix and name no label
-- what is said of a list of instructions that fit
plain-emitted : (labels : ℕ) (leaping : Bool) (is : List Instr) → AreItems (ones is) → (leaping ≡ true → 0 < length is) → AreEmitted labels leaping (ones is)
plain-emitted labels = ones-emitted a64_holes IsItem NamesOneOf labels One (λ i. refl) (λ place i. refl) (λ i. tt)

-- instructions in front of items
in-front : (labels : ℕ) (leaping : Bool) (is : List Instr) (xs : List Item) → AreItems (ones is) → AreEmitted labels leaping xs
    → AreEmitted labels leaping (ones is ++ xs)
in-front labels = ones-in-front a64_holes IsItem NamesOneOf labels One (λ i. refl) (λ place i. refl) (λ i. tt)

branch-emitted : (r : Reach) (labels : ℕ) (leaping : Bool) (sets : Instr) (c : Cond) (l : Label) → IsInstr sets → l.0 < labels
    → AreEmitted labels leaping (branch_if_items r sets c l)
branch-emitted Short labels leaping sets c l fit lt = record { items = (fit, (tt, tt)); labels = (tt, (lt, tt)); one_fix = λ place. omega arith; some = λ e. omega arith }
branch-emitted Near labels leaping sets c l fit lt = record { items = (fit, (tt, tt)); labels = (tt, (lt, tt)); one_fix = λ place. omega arith; some = λ e. omega arith }
branch-emitted Far labels leaping sets c l fit lt = record {
  items = (fit, ((omega arith, omega arith), (tt, tt)));
  labels = (tt, (tt, (lt, tt)));
  one_fix = λ place. omega arith;
  some = λ e. omega arith;
}

-- ---- the instructions
number-fits : (rd v : ℕ) → rd < 31 → v < 2 ^ 64 → AreItems (ones (number_code rd v))
number-fits rd v lt small = items-ones (number_code rd v) (numbers-are-loaded rd v lt small).fits

comparison-fits : (o : Condition) (a b : ℕ) → a < 32 → b < 32 → IsInstr (comparison o a b)
comparison-fits condition.Ms a b ha hb = (omega arith, ha, hb)
comparison-fits condition.Mc a b ha hb = (omega arith, ha, hb)
comparison-fits o a b ha hb = (omega arith, ha, hb)

number-comparison-fits : (o : Condition) (a v : ℕ) → a < 32 → is_held o v ≡ true → IsInstr (number_comparison a v)
number-comparison-fits o a v ha h = by (is_small v) refl (held-is o h)
  where
    held-is : (o : Condition) → is_held o v ≡ true → (is_small v || is_small (negated v)) ≡ true
    held-is condition.Ms e = cc
    held-is condition.Mc e = cc
    held-is o e = e

    by : (b : Bool) → is_small v ≡ b → (b || is_small (negated v)) ≡ true → IsInstr (if b then instr.Imm Subsi zero_register a v false else instr.Imm Addsi zero_register a (negated v) false)
    by true near held = (omega arith, ha, grind (arith, near))
    by false far held = (omega arith, ha, grind (arith, held))

sum-fits : (o : BranchSumOp) (a b : ℕ) → a < 32 → b < 32 → IsInstr (sum_instruction o a b)
sum-fits sum.OverflowAdd a b ha hb = (ha, ha, hb)
sum-fits o a b ha hb = (ha, ha, hb)

taken-fit : (n : ℕ) (is : List Instr) → AreItems (ones is) → AreItems (ones (take n is))
taken-fit zero is h = tt
taken-fit (suc n) [] h = tt
taken-fit (suc n) (i ∷ is) h = (h.0, taken-fit n is h.1)

restores-fit : (saved : ℕ) → AreItems (ones (restores saved))
restores-fit saved = taken-fit saved kept_loads (
  (omega arith, omega arith, omega arith, omega arith),
  ((omega arith, omega arith, omega arith, omega arith), ((omega arith, omega arith, omega arith, omega arith), tt)),
)

back-fits : (frame : ℕ) → AreItems (ones (leaving_code frame))
back-fits frame = ((omega arith, omega arith, omega arith, omega arith), by (nat_lt frame 4096) refl)
  where
    by : (b : Bool) → nat_lt frame 4096 ≡ b → AreItems (ones (if b then near_return frame else far_return))
    by true e = let small : frame < 4096 = grind (arith, e) in (
      (omega arith, omega arith, omega arith, omega arith),
      ((omega arith, omega arith, omega (arith, small)), (omega arith, tt)),
    )
    by false e = (
      (omega arith, omega arith, omega arith),
      ((omega arith, omega arith, omega arith, omega arith), ((omega arith, omega arith, omega arith), (omega arith, tt))),
    )

return-fits : (saved frame : ℕ) → AreItems (ones (return_code saved frame))
return-fits saved frame =
    subst AreItems (sym (ones-append (restores saved) (leaving_code frame)))
    (items-append (ones (restores saved)) (ones (leaving_code frame)) (restores-fit saved) (back-fits frame))

return-some : (saved frame : ℕ) → 0 < length (return_code saved frame)
return-some saved frame = let e = length-append (restores saved) (leaving_code frame) in omega (arith, e)

idle-fits : (k : ℕ) → AreItems (ones (idle k))
idle-fits zero = tt
idle-fits (suc k) = (tt, idle-fits k)

store-high : (first k : ℕ) → first ≤ 2048 → first / 8 - (1 + k) < 2 ^ 12
store-high first k h = grind (arith, h)

abbrev all-below : List ℕ → Bool
all-below rs = list_all (λ r. nat_lt r 32) rs

below : (r : ℕ) → nat_lt r 32 ≡ true → r < 32
below r h = grind (arith, h)

firsts-below : (saved : ℕ) → all-below (first_registers saved) ≡ true
firsts-below saved = take-all (λ r. nat_lt r 32) (19 ∷ 20 ∷ 21 ∷ []) saved refl

homes-below : (homes : ℕ) → all-below (home_registers homes) ≡ true
homes-below homes = take-all (λ r. nat_lt r 32) (argument_registers Aarch64) homes refl

stores-fit : (first : ℕ) (rs : List ℕ) (k : ℕ) → first ≤ 2048 → all-below rs ≡ true → AreItems (ones (stores_below first rs k))
stores-fit first [] k near h = tt
stores-fit first (r ∷ rs) k near h =
    let p = and_parts (nat_lt r 32) (all-below rs) h in
    ((below r p.0, omega arith, store-high first k near), stores-fit first rs (suc k) near p.1)

twelve-bits : (n : ℕ) → nat_lt n 4096 ≡ true → n < 4096
twelve-bits n h = grind (arith, h)

fall-fits : (size : ℕ) → AreItems (ones (fall_code size))
fall-fits size = by (nat_lt size 4096) refl
  where
    by : (b : Bool) → nat_lt size 4096 ≡ b → AreItems (ones (if b then instr.Imm Subi stack_pointer stack_pointer size false ∷ []
        else instr.Imm Subi stack_pointer stack_pointer (size / 4096 % 4096) true ∷ instr.Imm Subi stack_pointer stack_pointer (size % 4096) false ∷ []))
    by true e = let small = twelve-bits size e in ((omega arith, omega arith, omega (arith, small)), tt)
    by false e = ((omega arith, omega arith, omega arith), ((omega arith, omega arith, omega arith), tt))

framed-fits : (saved first homes : ℕ) (rest : List Instr) → first ≤ 2048 → AreItems (ones rest) → AreItems (ones (framed_code saved first homes rest))
framed-fits saved first homes rest near h =
    let end : List Instr = instr.Imm Addi frame_pointer stack_pointer (first - 16) false ∷ rest in
    let front : List Instr = stores_below first (first_registers saved) 0 in
    let mid : List Instr = stores_below first (home_registers homes) 5 in (
      (omega arith, omega arith, omega (arith, near)),
      subst AreItems (sym (ones-append front (mid ++ end)))
          (items-append (ones front) (ones (mid ++ end)) (stores-fit first (first_registers saved) 0 near (firsts-below saved))
          (subst AreItems (sym (ones-append mid end))
          (items-append (ones mid) (ones end) (stores-fit first (home_registers homes) 5 near (homes-below homes)) ((omega arith, omega arith, omega (arith, near)), h)))),
    )

prolog-fits : (saved size homes : ℕ) → AreItems (ones (prolog_code saved size homes))
prolog-fits saved size homes = by (is_near size) refl
  where
    by : (b : Bool) → is_near size ≡ b
        → AreItems (ones (if b then framed_code saved size homes [] else framed_code saved 112 homes (fall_code (size - 112))))
    by true e = framed-fits saved size homes [] (near-size size e).0 tt
    by false e = framed-fits saved 112 homes (fall_code (size - 112)) (omega arith) (fall-fits (size - 112))

-- ---- the nodes
module _ (r : Reach) (labels frame homes saved at : ℕ) where
  abbrev items-of : Op → List Operand → List Item
  items-of o xs = control_items r o xs frame homes saved at

  -- the second operand is put into its register
  second-fits : (x : Operand) → IsGiven labels x → AreItems (ones (second_code x))
  second-fits (operand.Number n) v = number-fits link n (omega arith) v
  second-fits (operand.Host name) v = number-fits link (host_address name) (omega arith) (host-small name)
  second-fits x v = tt

  first-small : (a : Reg) → register_of Aarch64 a < 32
  first-small a = let l = register-small a in omega (arith, l)

  second-small : (x : Operand) → second_register x < 32
  second-small (operand.Reg b) = first-small b
  second-small (operand.Number n) = omega arith
  second-small x = omega arith

  -- or is compared with, where an instruction holds it
  compared-fits : (o : Condition) (x : Operand) → IsGiven labels x → AreItems (ones (compared_code o x))
  compared-fits o (operand.Number n) v = by (is_held o n)
    where
      by : (b : Bool) → AreItems (ones (if b then [] else number_code link n))
      by true = tt
      by false = second-fits (operand.Number n) v
  compared-fits o (operand.Reg b) v = second-fits (operand.Reg b) v
  compared-fits o (operand.Host name) v = second-fits (operand.Host name) v
  compared-fits o (operand.Label l) v = second-fits (operand.Label l) v
  compared-fits o (operand.Slot k) v = second-fits (operand.Slot k) v

  comparing-fits : (o : Condition) (a : ℕ) (x : Operand) → a < 32 → IsInstr (comparing o a x)
  comparing-fits o a (operand.Number n) ha = by (is_held o n) refl
    where
      by : (b : Bool) → is_held o n ≡ b → IsInstr (if b then number_comparison a n else comparison o a link)
      by true e = number-comparison-fits o a n ha e
      by false e = comparison-fits o a link ha (omega arith)
  comparing-fits o a (operand.Reg b) ha = comparison-fits o a (second_register (operand.Reg b)) ha (second-small (operand.Reg b))
  comparing-fits o a (operand.Host name) ha = comparison-fits o a link ha (omega arith)
  comparing-fits o a x ha = comparison-fits o a link ha (omega arith)

  -- and an instruction that sets the flags and a branch are after that
  branched : (x : Operand) (sets : Instr) (c : Cond) (l : Label) → IsGiven labels x → IsInstr sets → l.0 < labels
      → AreEmitted labels true (second_items x ++ branch_if_items r sets c l)
  branched x sets c l v fit lt =
      subst (λ ys. AreEmitted labels true (ys ++ branch_if_items r sets c l)) (sym (second-is x))
      (in-front labels true (second_code x) _ (second-fits x v) (branch-emitted r labels true sets c l fit lt))

  branch : (o : Condition) (last : LastOperand) (xs : List Operand) → admit (forms_of (op.Branch o last)) xs ≡ true → AreGiven labels xs
      → AreEmitted labels true (items-of (op.Branch o last) xs)
  branch o last (operand.Label l ∷ operand.Reg a ∷ x ∷ []) h v =
      let sets : Instr = comparing o (register_of Aarch64 a) x in
      subst (λ ys. AreEmitted labels true (ys ++ branch_if_items r sets (taken o) l)) (sym (compared-is o x))
      (in-front labels true (compared_code o x) _ (compared-fits o x v.1.1.0) (branch-emitted r labels true sets (taken o) l (comparing-fits o (register_of Aarch64 a) x (first-small a)) v.0))
  branch o last (operand.Label l ∷ operand.Reg a ∷ x ∷ y ∷ ys) h v = absurd (never (admits (last_form last) x) h)
  branch o last xs h v = absurd (differ h)

  sum-branch : (o : BranchSumOp) (last : LastOperand) (xs : List Operand) → admit (forms_of (op.BranchSum o last)) xs ≡ true → AreGiven labels xs
      → AreEmitted labels true (items-of (op.BranchSum o last) xs)
  sum-branch o last (operand.Label l ∷ operand.Reg a ∷ x ∷ []) h v =
      branched x (sum_instruction o (register_of Aarch64 a) (second_register x)) (sum_taken o) l v.1.1.0
      (sum-fits o (register_of Aarch64 a) (second_register x) (first-small a) (second-small x)) v.0
  sum-branch o last (operand.Label l ∷ operand.Reg a ∷ x ∷ y ∷ ys) h v = absurd (never-sum (admits form.Update (operand.Reg a)) (admits (last_form last) x) h)
  sum-branch o last (operand.Label l ∷ operand.Reg a ∷ []) h v = absurd (never (admits form.Update (operand.Reg a)) h)
  sum-branch o last xs h v = absurd (differ h)

  jump-emitted : (o : BranchOp) (l : Label) → l.0 < labels → AreEmitted labels true (Branch o l.0 ∷ [])
  jump-emitted o l lt = record { items = (tt, tt); labels = (lt, tt); one_fix = λ place. omega arith; some = λ e. omega arith }

  jump : (xs : List Operand) → admit (forms_of (op.Control control.Jmp last_operand.Immediate)) xs ≡ true → AreGiven labels xs
      → AreEmitted labels true (items-of (op.Control control.Jmp last_operand.Immediate) xs)
  jump (operand.Label l ∷ []) h v = jump-emitted B l v.0
  jump xs h v = absurd (differ h)

  call : (xs : List Operand) → admit (forms_of (op.Control control.Call last_operand.Immediate)) xs ≡ true → AreGiven labels xs
      → AreEmitted labels true (items-of (op.Control control.Call last_operand.Immediate) xs)
  call (operand.Label l ∷ []) h v = jump-emitted Bl l v.0
  call (operand.Host name ∷ []) h v =
      in-front labels true (number_code link (host_address name)) (ones (instr.BranchReg Blr link ∷ []))
      (number-fits link (host_address name) (omega arith) (host-small name))
      (plain-emitted labels true (instr.BranchReg Blr link ∷ []) (omega arith, tt) (λ e. omega arith))
  call xs h v = absurd (differ h)

  register-leap : (o : BranchRegOp) (xs : List Operand) → admit (form.Read ∷ []) xs ≡ true → AreEmitted labels true (register_leap_items o xs)
  register-leap o (operand.Reg a ∷ []) h = plain-emitted labels true (register_leap_code o a) (first-small a, tt) (λ e. omega arith)
  register-leap o (x ∷ y ∷ ys) h = absurd (never (admits form.Read x) h)
  register-leap o xs h = absurd (differ h)

  returns : AreEmitted labels true (ones (return_code saved frame))
  returns = plain-emitted labels true (return_code saved frame) (return-fits saved frame) (λ e. return-some saved frame)

  ret : (last : LastOperand) (xs : List Operand) → admit (forms_of (op.Control control.Ret last)) xs ≡ true → AreGiven labels xs
      → AreEmitted labels true (items-of (op.Control control.Ret last) xs)
  ret last_operand.Register (operand.Reg a ∷ []) h v =
      in-front labels true (instr.Reg Orr result zero_register (register_of Aarch64 a) ∷ []) (ones (return_code saved frame)) ((omega arith, omega arith, first-small a), tt) returns
  ret last_operand.Immediate (operand.Number x ∷ []) h v =
      in-front labels true (number_code result x) (ones (return_code saved frame)) (number-fits result x (omega arith) v.0) returns
  ret last_operand.Immediate (operand.Host name ∷ []) h v =
      in-front labels true (number_code result (host_address name)) (ones (return_code saved frame)) (number-fits result (host_address name) (omega arith) (host-small name)) returns
  ret last_operand.Immediate (operand.Label l ∷ []) h v = record {
    items = (omega arith, return-fits saved frame);
    labels = (v.0, returns.labels);
    one_fix = λ place. let e = ap length (fixes-ones (place + 4 * 2) (return_code saved frame)) in omega (arith, e);
    some = λ e. omega arith;
  }
  ret last_operand.Register (x ∷ y ∷ ys) h v = absurd (never (admits form.Read x) h)
  ret last_operand.Immediate (x ∷ y ∷ ys) h v = absurd (never (admits form.Immediate x) h)
  ret last xs h v = absurd (differ h)

  align : (xs : List Operand) → admit (forms_of (op.Plain plain.Align)) xs ≡ true → AreEmitted labels false (items-of (op.Plain plain.Align) xs)
  align (operand.Number n ∷ []) h = plain-emitted labels false (align_code at n) (idle-fits (padding at n)) (λ e. absurd (differ e))
  align (operand.Number n ∷ y ∷ ys) h = absurd (never (is_alignment n) h)
  align xs h = absurd (differ h)

  nothing : AreEmitted labels false []
  nothing = nothing-emitted a64_holes IsItem NamesOneOf labels

  by-op : (o : Op) (xs : List Operand) → is_control o ≡ true → admit (forms_of o) xs ≡ true → AreGiven labels xs → ends_in_label xs ≡ false
      → AreEmitted labels (leaps o) (items-of o xs)
  by-op (op.Branch o last) xs c h v e = branch o last xs h v
  by-op (op.BranchSum o last) xs c h v e = sum-branch o last xs h v
  by-op (op.Control control.Jmp last_operand.Immediate) xs c h v e = jump xs h v
  by-op (op.Control control.Jmp last_operand.Register) xs c h v e = register-leap Br xs h
  by-op (op.Control control.Call last_operand.Register) xs c h v e = register-leap Blr xs h
  by-op (op.Control control.Finish last_operand.Register) xs c h v e = register-leap Blr xs h
  by-op (op.Control control.Call last_operand.Immediate) xs c h v e = call xs h v
  by-op (op.Control control.Finish last_operand.Immediate) xs c h v e = call xs h v
  by-op (op.Control control.Ret last) xs c h v e = ret last xs h v
  by-op (op.Plain plain.Prolog) xs c h v e = plain-emitted labels false (prolog_code saved frame homes) (prolog-fits saved frame homes) (λ z. absurd (differ z))
  by-op (op.Plain plain.Epilog) xs c h v e = returns
  by-op (op.Plain plain.Ret) xs c h v e = returns
  by-op (op.Plain plain.Align) xs c h v e = align xs h
  by-op (op.Plain plain.Prepare) xs c h v e = nothing
  by-op (op.Plain plain.Ellipsis) xs c h v e = nothing
  by-op (op.Plain plain.Arg) xs c h v e = nothing
  by-op (op.Plain plain.Allocai) xs c h v e = nothing
  by-op (op.Plain plain.VaEnd) xs c h v e = nothing
  by-op o xs c h v e = absurd (differ c)

pub control-items-fit : ControlItemsFit
control-items-fit r n labels frame homes saved at c h v e = by-op r labels frame homes saved at n.op n.operands c h.forms v e
