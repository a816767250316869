-- The items of the nodes can be appended to a buffer.
use Rattle.std.proofs.Common.{◌≡◌, ℕ, zero, suc, ◌+◌, ◌-◌, ◌*◌, ◌%◌, ◌^◌, ◌<◌, ◌≤◌, Bool, true, false, List, [], ◌∷◌, ◌++◌, refl, sym, ap, subst, arith, length, length-append}
use Rattle.std.specs.Prelude.{◌==◌, ◌&&◌, if◌then◌else◌, negsuc, pos, nat_lt}
use Rattle.std.specs.List.{list_all}
use Rattle.std.proofs.lemmas.List.{length-take}
use Rattle.std.proofs.lemmas.Bool.{and_parts}
use Rattle.lg_base.specs.Conventions.{argument_registers}
use Rattle.std.proofs.lemmas.Int.{ints}
use Rattle.lg_base.specs.HostNames.{host_address}
use Rattle.lg_base.specs.Words.{signed_view, is_half}
use Rattle.lg_base.specs.declared.host_name.HostName.{HostName}
use Rattle.lg_base.specs.declared.host_name.HostName.TheVariants as host
use Rattle.lg_base.specs.declared.target.Target.TheVariants.{X86_64}
use Rattle.lg_op.specs.Forms.{is_alignment, admits, admit, last_form, forms_of}
use Rattle.lg_op.specs.declared.form.Form.TheVariants as form
use Rattle.lg_op.specs.declared.op.BranchSumOp.{BranchSumOp}
use Rattle.lg_op.specs.declared.op.Condition.{Condition}
use Rattle.lg_op.specs.declared.op.ControlOp.TheVariants as control
use Rattle.lg_op.specs.declared.op.LastOperand.{LastOperand}
use Rattle.lg_op.specs.declared.op.LastOperand.TheVariants as last_operand
use Rattle.lg_op.specs.declared.op.Op.{Op}
use Rattle.lg_op.specs.declared.op.Op.TheVariants as op
use Rattle.lg_op.specs.declared.op.PlainOp.TheVariants as plain
use Rattle.lg_op.specs.declared.operand.Label.{Label}
use Rattle.lg_op.specs.declared.operand.Operand.{Operand}
use Rattle.lg_op.specs.declared.operand.Operand.TheVariants as operand
use Rattle.lg_op.specs.declared.operand.Reg.{Reg}
use Rattle.lg_x86.specs.Spelling.{IsInstr, IsNumber32}
use Rattle.lg_x86.specs.declared.instruction.Cond.{Cond}
use Rattle.lg_x86.specs.declared.instruction.BareOp.TheVariants.{Ret}
use Rattle.lg_x86.specs.declared.instruction.ImmOp.TheVariants.{Andi, Cmpi}
use Rattle.lg_x86.specs.declared.instruction.Instr.{Instr}
use Rattle.lg_x86.specs.declared.instruction.Instr.TheVariants as instr
use Rattle.lg_x86.specs.declared.instruction.JumpNearOp.TheVariants.{Call32}
use Rattle.lg_x86.specs.declared.instruction.RmRegOp.TheVariants.{Mov}
use Rattle.lg_op.specs.declared.operand.Reg.TheVariants.{R0}
use Rattle.lg_temp.specs.Abis.{register_of}
use Rattle.lg_carry.specs.Carries.{leaps}
use Rattle.lg_selx_values.specs.Processor.Numbers.{number_row}
use Rattle.lg_selx_values.proofs.OfProcessor.NumberCodeLemmas.{half-number, row-loads}
use Rattle.lg_sel.specs.Control.Stores.{kept_registers, home_registers}
use Rattle.lg_sel.proofs.OfControl.StoreLemmas.{take-all}
use Rattle.lg_sel.proofs.OfControl.ControlLemmas.{differ, never, never-sum, host-small}
use Rattle.lg_selx_values.specs.declared.items.Item.{Item}
use Rattle.lg_selx_values.specs.declared.items.Item.TheVariants.{One, Jump}
use Rattle.lg_selx_values.specs.declared.items.JumpKind.{JumpKind}
use Rattle.lg_selx_values.specs.declared.items.JumpKind.TheVariants.{Near}
use Rattle.lg_selx_values.specs.Items.{x86_holes, IsItem, NamesOneOf, AreItems, ones}
use Rattle.lg_selx_values.proofs.ItemLemmas.{items-append, fixes-ones, ones-append}
use Rattle.lg_sel.proofs.ListLemmas.{each-ones}
use Rattle.lg_selx.proofs.OfControl.TakenLemmas.{each-taken}
use Rattle.lg_selx_values.specs.Scratch.{again}
use Rattle.lg_selx_values.proofs.RegisterLemmas.{register-portable}
use Rattle.lg_sel.proofs.EmittedLemmas.{nothing-emitted, ones-emitted, ones-in-front}
use Rattle.lg_sel.specs.declared.reach.Reach.{Reach}
use Rattle.lg_selx.specs.Control.Alignments.{padding, idle, align_code}
use Rattle.lg_selx.specs.Control.Branches.{comparison, is_difference, far_number, pointer_comparison, wide_comparison, number_comparison, before_branch, taken}
use Rattle.lg_carry.specs.Nodes.Operands.{IsGiven, AreGiven}
use Rattle.lg_selx.specs.Control.ControlFits.{AreEmitted, ControlItemsFit}
use Rattle.lg_selx.specs.Control.ControlItems.{jump_kind, plain_kind, branch_if_items, register_jump_items, register_call_items, control_items, is_control}
use Rattle.lg_selx.specs.Control.ControlLaws.{ends_in_label}
use Rattle.lg_selx.specs.Control.HostCalls.{host_code}
use Rattle.lg_selx.specs.Control.Prologs.{stores_below, stored_code, lowered, prolog_code}
use Rattle.lg_selx.specs.Control.RegisterLeaps.{register_jump_code, register_call_code}
use Rattle.lg_selx.specs.Control.Returns.{result, restores, leave_code, restore_code, return_code}
use Rattle.lg_selx.specs.Control.SumBranches.{sum_row, sum_number, number_sum, before_sum_branch, sum_taken}

-- ---- instructions alone have no fix and name no label
-- what is said of a list of instructions that fit
plain-emitted : (labels : ℕ) (leaping : Bool) (is : List Instr) → AreItems (ones is) → (leaping ≡ true → 0 < length is) → AreEmitted labels leaping (ones is)
plain-emitted labels = ones-emitted x86_holes IsItem NamesOneOf labels One (λ i. refl) (λ place i. refl) (λ i. tt)

-- instructions in front of items
in-front : (labels : ℕ) (leaping : Bool) (is : List Instr) (xs : List Item) → AreItems (ones is) → AreEmitted labels leaping xs
    → AreEmitted labels leaping (ones is ++ xs)
in-front labels = ones-in-front x86_holes IsItem NamesOneOf labels One (λ i. refl) (λ place i. refl) (λ i. tt)

branch-emitted : (r : Reach) (labels : ℕ) (front : List Instr) (c : Cond) (l : Label) → AreItems (ones front) → l.0 < labels
    → AreEmitted labels true (branch_if_items r front c l)
branch-emitted r labels front c l fit lt =
    in-front labels true front (Jump (jump_kind r c) l.0 ∷ []) fit record { items = (tt, tt); labels = (lt, tt); one_fix = λ place. omega arith; some = λ e. omega arith }

-- ---- the instructions
near-number : (n : ℕ) → n < 0x40000000 → IsNumber32 (pos n)
near-number n h = (grind (arith, ints, h), grind (arith, ints, h))

low-number : (n : ℕ) → n < 0x40000000 → IsNumber32 (negsuc n)
low-number n h = (grind (arith, ints, h), grind (arith, ints, h))

again-fits : (frame : ℕ) → frame < 0x40000000 → AreItems (ones (again frame))
again-fits frame h = ((omega arith, omega arith, near-number (frame - 16) (omega (arith, h))), tt)

lowered-fits : (frame : ℕ) → frame < 0x40000000 → AreItems (ones (lowered frame))
lowered-fits frame h = ((omega arith, omega arith, low-number (frame - 17) (omega (arith, h))), tt)

far-number : (v : ℕ) → IsNumber32 (far_number v)
far-number v = by (nat_lt v (2 ^ 63))
  where
    by : (b : Bool) → IsNumber32 (if b then pos 0x7FFFFFFF else negsuc 0x7FFFFFFF)
    by true = (omega (arith, ints), omega (arith, ints))
    by false = (omega (arith, ints), omega (arith, ints))

pointer-fits : (o : Condition) (frame v : ℕ) → frame < 0x40000000 → AreItems (ones (pointer_comparison o frame v))
pointer-fits o frame v h = by (is_difference o)
  where
    by : (b : Bool) → AreItems (ones (if b then instr.Imm Cmpi 5 (far_number v) ∷ [] else instr.Imm Andi 5 (pos (v % 2 ^ 30)) ∷ again frame))
    by true = ((omega arith, far-number v), tt)
    by false = ((omega arith, near-number (v % 2 ^ 30) (omega arith)), again-fits frame h)

wide-fits : (o : Condition) (frame a v : ℕ) → frame < 0x40000000 → a < 16 → v < 2 ^ 64 → AreItems (ones (wide_comparison o frame a v))
wide-fits o frame a v h few small = by (a == 5)
  where
    by : (b : Bool) → AreItems (ones (if b then pointer_comparison o frame v else number_row 5 v ∷ (instr.RmReg (comparison o) a 5 ∷ again frame)))
    by true = pointer-fits o frame v h
    by false = ((row-loads 5 v (omega arith) small).fits, ((few, omega arith), again-fits frame h))

comparison-fits : (o : Condition) (frame a v : ℕ) → frame < 0x40000000 → a < 16 → v < 2 ^ 64 → AreItems (ones (number_comparison o frame a v))
comparison-fits o frame a v h few small = by (is_difference o) (is_half v) refl
  where
    by : (b c : Bool) → is_half v ≡ c
        → AreItems (ones (if b && c then instr.Imm Cmpi a (signed_view v) ∷ [] else wide_comparison o frame a v))
    by true true e = ((few, half-number v small e), tt)
    by true false e = wide-fits o frame a v h few small
    by false c e = wide-fits o frame a v h few small

sum-fits : (o : BranchSumOp) (frame a v : ℕ) → frame < 0x40000000 → a < 16 → v < 2 ^ 64 → AreItems (ones (number_sum o frame a v))
sum-fits o frame a v h few small = by (is_half v) refl
  where
    by : (c : Bool) → is_half v ≡ c
        → AreItems (ones (if c then instr.Imm (sum_number o) a (signed_view v) ∷ [] else number_row 5 v ∷ (instr.RmReg (sum_row o) a 5 ∷ again frame)))
    by true e = ((few, half-number v small e), tt)
    by false e = ((row-loads 5 v (omega arith) small).fits, ((few, omega arith), again-fits frame h))

-- instructions in a row
join-fits : (xs ys : List Instr) → AreItems (ones xs) → AreItems (ones ys) → AreItems (ones (xs ++ ys))
join-fits xs ys a b = subst AreItems (sym (ones-append xs ys)) (items-append (ones xs) (ones ys) a b)

restores-fit : (saved : ℕ) → AreItems (ones (restores saved))
restores-fit saved =
    each-ones IsItem One IsInstr (λ i h. h) (restores saved)
    (each-taken IsInstr saved (restores 3)
    ((omega arith, omega arith, low-number 7 (omega arith)), ((omega arith, omega arith, low-number 15 (omega arith)), ((omega arith, omega arith, low-number 23 (omega arith)), tt))))

return-fits : (saved : ℕ) → AreItems (ones (return_code saved))
return-fits saved =
    join-fits (restore_code saved) (instr.Bare Ret ∷ [])
    (join-fits (restores saved) leave_code (restores-fit saved) ((omega arith, omega arith, near-number 8 (omega arith)), ((omega arith, omega arith, near-number 0 (omega arith)), tt)))
    (tt, tt)

idle-fits : (k : ℕ) → AreItems (ones (idle k))
idle-fits zero = tt
idle-fits (suc k) = (tt, idle-fits k)

abbrev all-below : List ℕ → Bool
all-below rs = list_all (λ r. nat_lt r 16) rs

below : (r : ℕ) → nat_lt r 16 ≡ true → r < 16
below r h = grind (arith, h)

kept-below : (saved : ℕ) → all-below (kept_registers X86_64 saved) ≡ true
kept-below saved = take-all (λ r. nat_lt r 16) (kept_registers X86_64 3) saved refl

homes-below : (homes : ℕ) → all-below (home_registers X86_64 homes) ≡ true
homes-below homes = take-all (λ r. nat_lt r 16) (argument_registers X86_64) homes refl

pub kept-few : (saved : ℕ) → length (kept_registers X86_64 saved) ≤ 3
kept-few saved = let e = length-take saved (kept_registers X86_64 3) in omega (arith, e)

pub homes-few : (homes : ℕ) → length (home_registers X86_64 homes) ≤ 6
homes-few homes = let e = length-take homes (argument_registers X86_64) in omega (arith, e)

stores-fit : (rs : List ℕ) (k : ℕ) → all-below rs ≡ true → k + length rs ≤ 13 → AreItems (ones (stores_below rs k))
stores-fit [] k h few = tt
stores-fit (r ∷ rs) k h few =
    let p = and_parts (nat_lt r 16) (all-below rs) h in
    ((omega arith, low-number (8 * k - 9) (omega (arith, few)), below r p.0), stores-fit rs (suc k) p.1 (omega (arith, few)))

stored-fits : (saved homes : ℕ) → AreItems (ones (stored_code saved homes))
stored-fits saved homes =
    let kept : List ℕ = kept_registers X86_64 saved in
    let read : List ℕ = home_registers X86_64 homes in
    join-fits (stores_below kept 2) (stores_below read 5) (stores-fit kept 2 (kept-below saved) (let few = kept-few saved in omega (arith, few)))
    (stores-fit read 5 (homes-below homes) (let few = homes-few homes in omega (arith, few)))

prolog-fits : (size homes saved : ℕ) → size < 0x40000000 → AreItems (ones (prolog_code saved size homes))
prolog-fits size homes saved h = (
  (omega arith, low-number 7 (omega arith), omega arith),
  (
    (omega arith, omega arith, low-number 7 (omega arith)),
    join-fits (stored_code saved homes) (lowered size) (stored-fits saved homes) (lowered-fits size h),
  ),
)

host-near : (name : HostName) → host_address name < 2 ^ 32
host-near host.Printf = omega arith
host-near o = omega arith

first-small : (a : Reg) → register_of X86_64 a < 16
first-small a = (register-portable a).small

-- ---- the nodes
module _ (r : Reach) (labels frame homes saved at : ℕ) (framed : frame < 0x40000000) where
  abbrev items-of : Op → List Operand → List Item
  items-of o xs = control_items r o xs frame homes saved at

  before-fits : (o : Condition) (a : Reg) (x : Operand) → IsGiven labels x → AreItems (ones (before_branch frame o a x))
  before-fits o a (operand.Reg b) v = ((first-small a, first-small b), tt)
  before-fits o a (operand.Number n) v = comparison-fits o frame (register_of X86_64 a) n framed (first-small a) v
  before-fits o a (operand.Host name) v = comparison-fits o frame (register_of X86_64 a) (host_address name) framed (first-small a) (host-small name)
  before-fits o a (operand.Label l) v = tt
  before-fits o a (operand.Slot k) v = tt

  before-sum-fits : (o : BranchSumOp) (a : Reg) (x : Operand) → IsGiven labels x → AreItems (ones (before_sum_branch frame o a x))
  before-sum-fits o a (operand.Reg b) v = ((first-small a, first-small b), tt)
  before-sum-fits o a (operand.Number n) v = sum-fits o frame (register_of X86_64 a) n framed (first-small a) v
  before-sum-fits o a (operand.Host name) v = sum-fits o frame (register_of X86_64 a) (host_address name) framed (first-small a) (host-small name)
  before-sum-fits o a (operand.Label l) v = tt
  before-sum-fits o a (operand.Slot k) v = tt

  branch : (o : Condition) (last : LastOperand) (xs : List Operand) → admit (forms_of (op.Branch o last)) xs ≡ true → AreGiven labels xs
      → AreEmitted labels true (items-of (op.Branch o last) xs)
  branch o last (operand.Label l ∷ operand.Reg a ∷ x ∷ []) h v = branch-emitted r labels (before_branch frame o a x) (taken o) l (before-fits o a x v.1.1.0) v.0
  branch o last (operand.Label l ∷ operand.Reg a ∷ x ∷ y ∷ ys) h v = absurd (never (admits (last_form last) x) h)
  branch o last xs h v = absurd (differ h)

  sum-branch : (o : BranchSumOp) (last : LastOperand) (xs : List Operand) → admit (forms_of (op.BranchSum o last)) xs ≡ true → AreGiven labels xs
      → AreEmitted labels true (items-of (op.BranchSum o last) xs)
  sum-branch o last (operand.Label l ∷ operand.Reg a ∷ x ∷ []) h v =
      branch-emitted r labels (before_sum_branch frame o a x) (sum_taken o) l (before-sum-fits o a x v.1.1.0) v.0
  sum-branch o last (operand.Label l ∷ operand.Reg a ∷ x ∷ y ∷ ys) h v = absurd (never-sum (admits form.Update (operand.Reg a)) (admits (last_form last) x) h)
  sum-branch o last (operand.Label l ∷ operand.Reg a ∷ []) h v = absurd (never (admits form.Update (operand.Reg a)) h)
  sum-branch o last xs h v = absurd (differ h)

  jump-emitted : (kind : JumpKind) (l : Label) → l.0 < labels → AreEmitted labels true (Jump kind l.0 ∷ [])
  jump-emitted kind l lt = record { items = (tt, tt); labels = (lt, tt); one_fix = λ place. omega arith; some = λ e. omega arith }

  jump : (xs : List Operand) → admit (forms_of (op.Control control.Jmp last_operand.Immediate)) xs ≡ true → AreGiven labels xs
      → AreEmitted labels true (items-of (op.Control control.Jmp last_operand.Immediate) xs)
  jump (operand.Label l ∷ []) h v = jump-emitted (plain_kind r) l v.0
  jump xs h v = absurd (differ h)

  call : (xs : List Operand) → admit (forms_of (op.Control control.Call last_operand.Immediate)) xs ≡ true → AreGiven labels xs
      → AreEmitted labels true (items-of (op.Control control.Call last_operand.Immediate) xs)
  call (operand.Label l ∷ []) h v = jump-emitted (Near Call32) l v.0
  call (operand.Host name ∷ []) h v =
      plain-emitted labels true (host_code name) ((omega arith, host-near name), ((omega arith, omega arith), (omega arith, tt))) (λ e. omega arith)
  call xs h v = absurd (differ h)

  register-jump : (xs : List Operand) → admit (form.Read ∷ []) xs ≡ true → AreEmitted labels true (register_jump_items xs)
  register-jump (operand.Reg a ∷ []) h = plain-emitted labels true (register_jump_code 0 a) (first-small a, tt) (λ e. omega arith)
  register-jump (x ∷ y ∷ ys) h = absurd (never (admits form.Read x) h)
  register-jump xs h = absurd (differ h)

  register-call : (xs : List Operand) → admit (form.Read ∷ []) xs ≡ true → AreEmitted labels true (register_call_items xs)
  register-call (operand.Reg a ∷ []) h =
      plain-emitted labels true (register_call_code 0 a) ((omega arith, first-small a), ((omega arith, omega arith), (omega arith, tt))) (λ e. omega arith)
  register-call (x ∷ y ∷ ys) h = absurd (never (admits form.Read x) h)
  register-call xs h = absurd (differ h)

  returns-some : 0 < length (return_code saved)
  returns-some = let e = length-append (restore_code saved) (instr.Bare Ret ∷ []) in omega (arith, e)

  returns : AreEmitted labels true (ones (return_code saved))
  returns = plain-emitted labels true (return_code saved) (return-fits saved) (λ e. returns-some)

  -- a number is put into the register of the result
  number-ret : (v : ℕ) → v < 2 ^ 64 → AreEmitted labels true (ones (number_row result v ∷ []) ++ ones (return_code saved))
  number-ret v small = in-front labels true (number_row result v ∷ []) (ones (return_code saved)) ((row-loads result v (omega arith) small).fits, tt) returns

  ret : (last : LastOperand) (xs : List Operand) → admit (forms_of (op.Control control.Ret last)) xs ≡ true → AreGiven labels xs
      → AreEmitted labels true (items-of (op.Control control.Ret last) xs)
  ret last_operand.Register (operand.Reg R0 ∷ []) h v = returns
  ret last_operand.Register (operand.Reg a ∷ []) h v =
      in-front labels true (instr.RmReg Mov result (register_of X86_64 a) ∷ []) (ones (return_code saved)) ((omega arith, first-small a), tt) returns
  ret last_operand.Immediate (operand.Number x ∷ []) h v = number-ret x v.0
  ret last_operand.Immediate (operand.Host name ∷ []) h v = number-ret (host_address name) (host-small name)
  ret last_operand.Immediate (operand.Label l ∷ []) h v = record {
    items = (omega arith, return-fits saved);
    labels = (v.0, returns.labels);
    one_fix = λ place. let e = ap length (fixes-ones (place + 5) (return_code saved)) in omega (arith, e);
    some = λ e. omega arith;
  }
  ret last_operand.Register (x ∷ y ∷ ys) h v = absurd (never (admits form.Read x) h)
  ret last_operand.Immediate (x ∷ y ∷ ys) h v = absurd (never (admits form.Immediate x) h)
  ret last xs h v = absurd (differ h)

  align : (xs : List Operand) → admit (forms_of (op.Plain plain.Align)) xs ≡ true → AreEmitted labels false (items-of (op.Plain plain.Align) xs)
  align (operand.Number n ∷ []) h = plain-emitted labels false (align_code at n) (idle-fits (padding at n)) (λ e. absurd (differ e))
  align (operand.Number n ∷ y ∷ ys) h = absurd (never (is_alignment n) h)
  align xs h = absurd (differ h)

  nothing : AreEmitted labels false []
  nothing = nothing-emitted x86_holes IsItem NamesOneOf labels

  by-op : (o : Op) (xs : List Operand) → is_control o ≡ true → admit (forms_of o) xs ≡ true → AreGiven labels xs → ends_in_label xs ≡ false
      → AreEmitted labels (leaps o) (items-of o xs)
  by-op (op.Branch o last) xs c h v e = branch o last xs h v
  by-op (op.BranchSum o last) xs c h v e = sum-branch o last xs h v
  by-op (op.Control control.Jmp last_operand.Immediate) xs c h v e = jump xs h v
  by-op (op.Control control.Jmp last_operand.Register) xs c h v e = register-jump xs h
  by-op (op.Control control.Call last_operand.Register) xs c h v e = register-call xs h
  by-op (op.Control control.Finish last_operand.Register) xs c h v e = register-call xs h
  by-op (op.Control control.Call last_operand.Immediate) xs c h v e = call xs h v
  by-op (op.Control control.Finish last_operand.Immediate) xs c h v e = call xs h v
  by-op (op.Control control.Ret last) xs c h v e = ret last xs h v
  by-op (op.Plain plain.Prolog) xs c h v e = plain-emitted labels false (prolog_code saved frame homes) (prolog-fits frame homes saved framed) (λ z. absurd (differ z))
  by-op (op.Plain plain.Epilog) xs c h v e = returns
  by-op (op.Plain plain.Ret) xs c h v e = returns
  by-op (op.Plain plain.Align) xs c h v e = align xs h
  by-op (op.Plain plain.Prepare) xs c h v e = nothing
  by-op (op.Plain plain.Ellipsis) xs c h v e = nothing
  by-op (op.Plain plain.Arg) xs c h v e = nothing
  by-op (op.Plain plain.Allocai) xs c h v e = nothing
  by-op (op.Plain plain.VaEnd) xs c h v e = nothing
  by-op o xs c h v e = absurd (differ c)

pub control-items-fit : ControlItemsFit
control-items-fit r n labels frame homes saved at framed c h v e = by-op r labels frame homes saved at framed n.op n.operands c h.forms v e
