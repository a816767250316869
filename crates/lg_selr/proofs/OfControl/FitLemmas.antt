-- The items of the nodes can be appended to a buffer.
use Rattle.std.proofs.Common.{◌≡◌, ◌≢◌, ℕ, zero, suc, ◌+◌, ◌-◌, ◌*◌, ◌^◌, ◌<◌, ◌≤◌, Bool, true, false, List, [], ◌∷◌, ◌++◌, refl, sym, ap, subst, arith, length, length-append}
use Rattle.std.proofs.lemmas.Int.{ints}
use Rattle.std.specs.Prelude.{◌==◌, pos, negsuc, ◌≤ℤ◌, nat_le, nat_lt, if◌then◌else◌}
use Rattle.std.specs.List.{list_all}
use Rattle.std.proofs.lemmas.Bool.{and_parts}
use Rattle.lg_base.specs.Conventions.{argument_registers}
use Rattle.lg_base.specs.HostNames.{host_address}
use Rattle.lg_base.specs.declared.host_name.HostName.{HostName}
use Rattle.lg_base.specs.declared.target.Target.TheVariants.{Riscv64}
use Rattle.lg_op.specs.Forms.{is_alignment, admits, admit, last_form, forms_of}
use Rattle.lg_op.specs.declared.form.Form.TheVariants as form
use Rattle.lg_op.specs.declared.op.BranchSumOp.{BranchSumOp}
use Rattle.lg_op.specs.declared.op.BranchSumOp.TheVariants as sum
use Rattle.lg_op.specs.declared.op.Condition.{Condition}
use Rattle.lg_op.specs.declared.op.Condition.TheVariants as condition
use Rattle.lg_op.specs.declared.op.ControlOp.TheVariants as control
use Rattle.lg_op.specs.declared.op.LastOperand.{LastOperand}
use Rattle.lg_op.specs.declared.op.LastOperand.TheVariants as last_operand
use Rattle.lg_op.specs.declared.op.Op.{Op}
use Rattle.lg_op.specs.declared.op.Op.TheVariants as op
use Rattle.lg_op.specs.declared.op.PlainOp.TheVariants as plain
use Rattle.lg_op.specs.declared.operand.Label.{Label}
use Rattle.lg_op.specs.declared.operand.Operand.{Operand}
use Rattle.lg_op.specs.declared.operand.Operand.TheVariants as operand
use Rattle.lg_rv.specs.declared.instruction.BranchOp.{BranchOp}
use Rattle.lg_rv.specs.declared.instruction.Instr.{Instr}
use Rattle.lg_rv.specs.declared.instruction.Instr.TheVariants as instr
use Rattle.lg_rv.specs.declared.instruction.ImmOp.TheVariants.{Ld, Addi, Addiw}
use Rattle.lg_rv.specs.declared.instruction.RegOp.TheVariants.{Sub}
use Rattle.lg_rv.specs.declared.instruction.UpperOp.TheVariants.{Lui}
use Rattle.lg_temp.specs.Abis.{register_of}
use Rattle.lg_carry.specs.Carries.{leaps}
use Rattle.lg_selr_values.specs.Processor.Numbers.{number_code, high_part, low_part}
use Rattle.lg_selr_values.proofs.OfProcessor.NumberCodeLemmas.{low-small, numbers-are-loaded}
use Rattle.lg_selr_values.proofs.OfProcessor.RegisterLemmas.{register-small}
use Rattle.lg_selr_values.specs.declared.items.Item.{Item}
use Rattle.lg_selr_values.specs.declared.items.Item.TheVariants.{One}
use Rattle.lg_selr_values.specs.Items.{rv_holes, IsItem, NamesOneOf, AreItems, ones}
use Rattle.lg_selr_values.proofs.ItemLemmas.{items-append, items-ones, fixes-ones, ones-append}
use Rattle.lg_sel.proofs.EmittedLemmas.{nothing-emitted, ones-emitted, ones-in-front}
use Rattle.lg_sel.specs.declared.reach.Reach.{Reach}
use Rattle.lg_sel.specs.declared.reach.Reach.TheVariants.{Short, Near, Far}
use Rattle.lg_selr.specs.Control.Alignments.{padding, idle, align_code}
use Rattle.lg_selr.specs.Control.Branches.{failing, left_of, right_of, bits_code}
use Rattle.lg_carry.specs.Nodes.Operands.{IsGiven, AreGiven}
use Rattle.lg_selr.specs.Control.ControlFits.{AreEmitted, ControlItemsFit}
use Rattle.lg_selr.specs.Control.ControlItems.{second_register, second_items, jump_unless_items, label_items, register_leap_items, control_items, is_control}
use Rattle.lg_selr.specs.Control.TwoWays.{second_code}
use Rattle.lg_selr.proofs.OfControl.ControlLemmas.{second-is}
use Rattle.lg_selr.specs.Control.ControlLaws.{ends_in_label}
use Rattle.lg_selr.specs.Control.HostCalls.{host_code}
use Rattle.lg_selr.specs.Control.Prologs.{first_registers, home_registers, stores_below, fall_code, framed_code, prolog_code}
use Rattle.lg_selr.specs.Control.RegisterLeaps.{register_leap_code}
use Rattle.lg_selr.specs.Control.Returns.{restores, near_return, far_return, leaving_code, return_code}
use Rattle.lg_selr.specs.Control.SumBranches.{sum_code, staying}
use Rattle.lg_selr.proofs.OfControl.RestoreLemmas.{of-saved}
use Rattle.lg_sel.specs.Control.Stores.{kept_registers}
use Rattle.lg_sel.proofs.OfControl.StoreLemmas.{take-all}
use Rattle.lg_sel.proofs.OfControl.ControlLemmas.{differ, never, never-sum, host-small}

-- ---- instructions alone have no fix and name no label
-- what is said of a list of instructions that fit
pub plain-emitted : (labels : ℕ) (leaping : Bool) (is : List Instr) → AreItems (ones is) → (leaping ≡ true → 0 < length is) → AreEmitted labels leaping (ones is)
plain-emitted labels = ones-emitted rv_holes IsItem NamesOneOf labels One (λ i. refl) (λ place i. refl) (λ i. tt)

-- instructions in front of items
pub in-front : (labels : ℕ) (leaping : Bool) (is : List Instr) (xs : List Item) → AreItems (ones is) → AreEmitted labels leaping xs
    → AreEmitted labels leaping (ones is ++ xs)
in-front labels = ones-in-front rv_holes IsItem NamesOneOf labels One (λ i. refl) (λ place i. refl) (λ i. tt)

unless-emitted : (r : Reach) (labels : ℕ) (leaping : Bool) (o : BranchOp) (a b : ℕ) (l : Label) → a < 32 → b < 32 → l.0 < labels → AreEmitted labels leaping (jump_unless_items r o a b l)
unless-emitted Short labels leaping o a b l ha hb lt = record { items = ((ha, hb), tt); labels = (lt, tt); one_fix = λ place. omega arith; some = λ e. omega arith }
unless-emitted Far labels leaping o a b l ha hb lt = record {
  items = ((ha, hb, omega arith, omega arith, refl), ((omega arith, omega arith), tt));
  labels = (tt, (lt, tt));
  one_fix = λ place. omega arith;
  some = λ e. omega arith;
}
unless-emitted Near labels leaping o a b l ha hb lt = record {
  items = ((ha, hb, omega arith, omega arith, refl), (omega arith, tt));
  labels = (tt, (lt, tt));
  one_fix = λ place. omega arith;
  some = λ e. omega arith;
}

-- ---- the instructions
number-fits : (rd v : ℕ) → rd ≢ 0 → rd < 32 → v < 2 ^ 64 → AreItems (ones (number_code rd v))
number-fits rd v some lt small = items-ones (number_code rd v) (numbers-are-loaded rd v some lt small).fits

bits-fit : (o : Condition) (a b : ℕ) → a < 32 → b < 32 → AreItems (ones (bits_code o a b))
bits-fit condition.Ms a b ha hb = ((omega arith, ha, hb), tt)
bits-fit condition.Mc a b ha hb = ((omega arith, ha, hb), tt)
bits-fit o a b ha hb = tt

left-fits : (o : Condition) (a b : ℕ) → a < 32 → b < 32 → left_of o a b < 32
left-fits condition.Le a b ha hb = hb
left-fits condition.LeU a b ha hb = hb
left-fits condition.Gt a b ha hb = hb
left-fits condition.GtU a b ha hb = hb
left-fits condition.Ms a b ha hb = omega arith
left-fits condition.Mc a b ha hb = omega arith
left-fits o a b ha hb = ha

right-fits : (o : Condition) (a b : ℕ) → a < 32 → b < 32 → right_of o a b < 32
right-fits condition.Le a b ha hb = ha
right-fits condition.LeU a b ha hb = ha
right-fits condition.Gt a b ha hb = ha
right-fits condition.GtU a b ha hb = ha
right-fits condition.Ms a b ha hb = omega arith
right-fits condition.Mc a b ha hb = omega arith
right-fits o a b ha hb = hb

sum-fits : (o : BranchSumOp) (a b : ℕ) → a < 32 → b < 32 → AreItems (ones (sum_code o a b))
sum-fits sum.OverflowAdd a b ha hb = ((omega arith, hb, omega arith, omega arith), ((omega arith, ha, hb), ((ha, omega arith, ha), ((omega arith, omega arith, ha), ((ha, omega arith, omega arith, omega arith), tt)))))
sum-fits sum.FitAdd a b ha hb = ((omega arith, hb, omega arith, omega arith), ((omega arith, ha, hb), ((ha, omega arith, ha), ((omega arith, omega arith, ha), ((ha, omega arith, omega arith, omega arith), tt)))))
sum-fits sum.OverflowAddU a b ha hb = ((omega arith, ha, hb), ((omega arith, omega arith, ha), ((ha, omega arith, omega arith, omega arith), tt)))
sum-fits sum.FitAddU a b ha hb = ((omega arith, ha, hb), ((omega arith, omega arith, ha), ((ha, omega arith, omega arith, omega arith), tt)))
sum-fits sum.OverflowSub a b ha hb = ((omega arith, ha, hb), ((omega arith, ha, hb), ((ha, omega arith, omega arith, omega arith), ((omega arith, omega arith, ha), ((ha, omega arith, omega arith, omega arith), tt)))))
sum-fits sum.FitSub a b ha hb = ((omega arith, ha, hb), ((omega arith, ha, hb), ((ha, omega arith, omega arith, omega arith), ((omega arith, omega arith, ha), ((ha, omega arith, omega arith, omega arith), tt)))))
sum-fits sum.OverflowSubU a b ha hb = ((omega arith, ha, hb), ((ha, ha, hb), tt))
sum-fits sum.FitSubU a b ha hb = ((omega arith, ha, hb), ((ha, ha, hb), tt))

far-return-fits : AreItems (ones far_return)
far-return-fits = (
  (omega arith, omega arith, omega arith, omega arith),
  (
    (omega arith, omega arith, omega arith, omega arith),
    ((omega arith, omega arith, omega arith, omega arith), ((omega arith, omega arith, omega arith, omega arith), ((omega arith, omega arith, omega arith, omega arith), tt))),
  ),
)

near-return-fits : (frame : ℕ) → frame < 2048 → AreItems (ones (near_return frame))
near-return-fits frame small = (
  (omega arith, omega arith, omega arith, omega arith),
  ((omega arith, omega arith, omega arith, omega arith), ((omega arith, omega arith, omega (arith, ints), omega (arith, ints, small)), ((omega arith, omega arith, omega arith, omega arith), tt))),
)

leaving-fits : (frame : ℕ) → AreItems (ones (leaving_code frame))
leaving-fits frame = by (nat_lt frame 2048) refl
  where
    by : (b : Bool) → nat_lt frame 2048 ≡ b → AreItems (ones (if b then near_return frame else far_return))
    by true e = near-return-fits frame (grind (arith, e))
    by false e = far-return-fits

return-fits : (saved frame : ℕ) → AreItems (ones (return_code saved frame))
return-fits saved frame =
    let left = leaving-fits frame in
    let v0 : IsItem (One (instr.Imm Ld 9 8 (negsuc 7))) = (omega arith, omega arith, omega arith, omega arith) in
    let v1 : IsItem (One (instr.Imm Ld 18 8 (negsuc 15))) = (omega arith, omega arith, omega arith, omega arith) in
    let v2 : IsItem (One (instr.Imm Ld 19 8 (negsuc 23))) = (omega arith, omega arith, omega arith, omega arith) in
    of-saved (λ n is. AreItems (ones (is ++ leaving_code frame))) left (v0, left) (v0, (v1, left)) (λ s. (v0, (v1, (v2, left)))) saved

return-some : (saved frame : ℕ) → 0 < length (return_code saved frame)
return-some saved frame = by (nat_lt frame 2048)
  where
    by : (b : Bool) → 0 < length (restores saved ++ (if b then near_return frame else far_return))
    by true = let e = length-append (restores saved) (near_return frame) in omega (arith, e)
    by false = let e = length-append (restores saved) far_return in omega (arith, e)

high-fits : (name : HostName) → high_part (host_address name) < 2 ^ 20
high-fits name = omega arith

host-fits : (name : HostName) → AreItems (ones (host_code name))
host-fits name = let l = low-small (host_address name) in ((omega arith, high-fits name), ((omega arith, omega arith, l.0, l.1), tt))

idle-fits : (k : ℕ) → AreItems (ones (idle k))
idle-fits zero = tt
idle-fits (suc k) = ((omega arith, omega arith, omega arith, omega arith), idle-fits k)

store-high : (first k : ℕ) → first ≤ 2048 → pos (first - (8 + 8 * k)) ≤ℤ pos 2047
store-high first k h = grind (arith, h)

abbrev all-below : List ℕ → Bool
all-below rs = list_all (λ r. nat_lt r 32) rs

below : (r : ℕ) → nat_lt r 32 ≡ true → r < 32
below r h = grind (arith, h)

firsts-below : (saved : ℕ) → all-below (first_registers saved) ≡ true
firsts-below saved = take-all (λ r. nat_lt r 32) (kept_registers Riscv64 3) saved refl

homes-below : (homes : ℕ) → all-below (home_registers homes) ≡ true
homes-below homes = take-all (λ r. nat_lt r 32) (argument_registers Riscv64) homes refl

stores-fit : (first : ℕ) (rs : List ℕ) (k : ℕ) → first ≤ 2048 → all-below rs ≡ true → AreItems (ones (stores_below first rs k))
stores-fit first [] k near h = tt
stores-fit first (r ∷ rs) k near h =
    let p = and_parts (nat_lt r 32) (all-below rs) h in
    ((omega arith, below r p.0, grind arith, store-high first k near), stores-fit first rs (suc k) near p.1)

short-low : (size : ℕ) → size ≤ 2048 → negsuc 2047 ≤ℤ negsuc (size - 1)
short-low size h = grind (arith, h)

at-most : (size : ℕ) → nat_le size 2048 ≡ true → size ≤ 2048
at-most size h = grind (arith, h)

fall-fits : (size : ℕ) → AreItems (ones (fall_code size))
fall-fits size = by (nat_le size 2048) refl
  where
    by : (b : Bool) → nat_le size 2048 ≡ b → AreItems (ones (if b then instr.Imm Addi 2 2 (negsuc (size - 1)) ∷ [] else instr.Upper Lui 1 (high_part size) ∷ instr.Imm Addiw 1 1 (low_part size) ∷ instr.Reg Sub 2 2 1 ∷ []))
    by true e = ((omega arith, omega arith, short-low size (at-most size e), grind arith), tt)
    by false e = let l = low-small size in ((omega arith, omega arith), ((omega arith, omega arith, l.0, l.1), ((omega arith, omega arith, omega arith), tt)))

pointer-high : (first : ℕ) → first ≤ 2048 → pos (first - 16) ≤ℤ pos 2047
pointer-high first h = grind (arith, h)

framed-fits : (saved first homes : ℕ) (rest : List Instr) → first ≤ 2048 → AreItems (ones rest) → AreItems (ones (framed_code saved first homes rest))
framed-fits saved first homes rest near h =
    let end : List Instr = instr.Imm Addi 8 2 (pos (first - 16)) ∷ rest in
    let firsts : List Instr = stores_below first (first_registers saved) 0 in
    let lasts : List Instr = stores_below first (home_registers homes) 5 in (
      (omega arith, omega arith, short-low first near, grind arith),
      subst AreItems (sym (ones-append firsts (lasts ++ end)))
          (items-append (ones firsts) (ones (lasts ++ end)) (stores-fit first (first_registers saved) 0 near (firsts-below saved))
          (subst AreItems (sym (ones-append lasts end))
          (items-append (ones lasts) (ones end) (stores-fit first (home_registers homes) 5 near (homes-below homes))
          ((omega arith, omega arith, grind arith, pointer-high first near), h)))),
    )

prolog-fits : (saved size homes : ℕ) → AreItems (ones (prolog_code saved size homes))
prolog-fits saved size homes = by (nat_le size 2048) refl
  where
    by : (b : Bool) → nat_le size 2048 ≡ b → AreItems (ones (if b then framed_code saved size homes [] else framed_code saved 2048 homes (fall_code (size - 2048))))
    by true e = framed-fits saved size homes [] (at-most size e) tt
    by false e = framed-fits saved 2048 homes (fall_code (size - 2048)) (omega arith) (fall-fits (size - 2048))

-- ---- the nodes
module _ (r : Reach) (labels frame homes saved at : ℕ) where
  abbrev items-of : Op → List Operand → List Item
  items-of o xs = control_items r o xs frame homes saved at

  -- the second operand is put into its register
  second-fits : (x : Operand) → IsGiven labels x → AreItems (ones (second_code x))
  second-fits (operand.Reg b) v = tt
  second-fits (operand.Number n) v = by (n == 0)
    where
      by : (b : Bool) → AreItems (ones (if b then [] else number_code 1 n))
      by true = tt
      by false = number-fits 1 n (λ z. cc) (omega arith) v
  second-fits (operand.Host name) v = number-fits 1 (host_address name) (λ z. cc) (omega arith) (host-small name)
  second-fits (operand.Label l) v = tt
  second-fits (operand.Slot k) v = tt

  second-small : (x : Operand) → second_register x < 32
  second-small (operand.Reg b) = register-small b
  second-small (operand.Number n) = by (n == 0)
    where
      by : (b : Bool) → (if b then 0 else 1) < 32
      by true = omega arith
      by false = omega arith
  second-small (operand.Host name) = omega arith
  second-small x = omega arith

  -- and other instructions are between that and a branch over a jump
  branched : (x : Operand) (body : List Instr) (o : BranchOp) (a b : ℕ) (l : Label) → IsGiven labels x → AreItems (ones body) → a < 32 → b < 32 → l.0 < labels
      → AreEmitted labels true (second_items x ++ (ones body ++ jump_unless_items r o a b l))
  branched x body o a b l v fit ha hb lt =
      subst (λ ys. AreEmitted labels true (ys ++ (ones body ++ jump_unless_items r o a b l))) (sym (second-is x))
      (in-front labels true (second_code x) _ (second-fits x v) (in-front labels true body _ fit (unless-emitted r labels true o a b l ha hb lt)))

  branch : (o : Condition) (last : LastOperand) (xs : List Operand) → admit (forms_of (op.Branch o last)) xs ≡ true → AreGiven labels xs
      → AreEmitted labels true (items-of (op.Branch o last) xs)
  branch o last (operand.Label l ∷ operand.Reg a ∷ x ∷ []) h v =
      let ra : ℕ = register_of Riscv64 a in let b : ℕ = second_register x in let ha = register-small a in let hb = second-small x in
      branched x (bits_code o ra b) (failing o) (left_of o ra b) (right_of o ra b) l v.1.1.0
      (bits-fit o ra b ha hb) (left-fits o ra b ha hb) (right-fits o ra b ha hb) v.0
  branch o last (operand.Label l ∷ operand.Reg a ∷ x ∷ y ∷ ys) h v = absurd (never (admits (last_form last) x) h)
  branch o last xs h v = absurd (differ h)

  sum-branch : (o : BranchSumOp) (last : LastOperand) (xs : List Operand) → admit (forms_of (op.BranchSum o last)) xs ≡ true → AreGiven labels xs
      → AreEmitted labels true (items-of (op.BranchSum o last) xs)
  sum-branch o last (operand.Label l ∷ operand.Reg a ∷ x ∷ []) h v =
      let ra : ℕ = register_of Riscv64 a in let b : ℕ = second_register x in
      branched x (sum_code o ra b) (staying o) 31 0 l v.1.1.0 (sum-fits o ra b (register-small a) (second-small x)) (omega arith) (omega arith) v.0
  sum-branch o last (operand.Label l ∷ operand.Reg a ∷ x ∷ y ∷ ys) h v = absurd (never-sum (admits form.Update (operand.Reg a)) (admits (last_form last) x) h)
  sum-branch o last (operand.Label l ∷ operand.Reg a ∷ []) h v = absurd (never (admits form.Update (operand.Reg a)) h)
  sum-branch o last xs h v = absurd (differ h)

  jump-emitted : (s : Reach) (rd base : ℕ) (l : Label) → rd < 32 → base < 32 → l.0 < labels → AreEmitted labels true (label_items s rd base l)
  jump-emitted Short rd base l h k lt = record { items = (h, tt); labels = (lt, tt); one_fix = λ place. omega arith; some = λ e. omega arith }
  jump-emitted Near rd base l h k lt = record { items = (h, tt); labels = (lt, tt); one_fix = λ place. omega arith; some = λ e. omega arith }
  jump-emitted Far rd base l h k lt = record { items = ((h, k), tt); labels = (lt, tt); one_fix = λ place. omega arith; some = λ e. omega arith }

  jump : (xs : List Operand) → admit (forms_of (op.Control control.Jmp last_operand.Immediate)) xs ≡ true → AreGiven labels xs → AreEmitted labels true (items-of (op.Control control.Jmp last_operand.Immediate) xs)
  jump (operand.Label l ∷ []) h v = jump-emitted r 0 31 l (omega arith) (omega arith) v.0
  jump xs h v = absurd (differ h)

  call : (xs : List Operand) → admit (forms_of (op.Control control.Call last_operand.Immediate)) xs ≡ true → AreGiven labels xs → AreEmitted labels true (items-of (op.Control control.Call last_operand.Immediate) xs)
  call (operand.Label l ∷ []) h v = jump-emitted r 1 1 l (omega arith) (omega arith) v.0
  call (operand.Host name ∷ []) h v = plain-emitted labels true (host_code name) (host-fits name) (λ e. omega arith)
  call xs h v = absurd (differ h)

  register-leap : (rd : ℕ) (xs : List Operand) → rd < 32 → admit (form.Read ∷ []) xs ≡ true → AreEmitted labels true (register_leap_items rd xs)
  register-leap rd (operand.Reg a ∷ []) lt h = plain-emitted labels true (register_leap_code rd a) ((lt, register-small a, omega arith, omega arith), tt) (λ e. omega arith)
  register-leap rd (x ∷ y ∷ ys) lt h = absurd (never (admits form.Read x) h)
  register-leap rd xs lt h = absurd (differ h)

  returns : AreEmitted labels true (ones (return_code saved frame))
  returns = plain-emitted labels true (return_code saved frame) (return-fits saved frame) (λ e. return-some saved frame)

  ret : (last : LastOperand) (xs : List Operand) → admit (forms_of (op.Control control.Ret last)) xs ≡ true → AreGiven labels xs → AreEmitted labels true (items-of (op.Control control.Ret last) xs)
  ret last_operand.Register (operand.Reg a ∷ []) h v = in-front labels true (instr.Imm Addi 10 (register_of Riscv64 a) (pos 0) ∷ []) (ones (return_code saved frame)) ((omega arith, register-small a, omega arith, omega arith), tt) returns
  ret last_operand.Immediate (operand.Number x ∷ []) h v = in-front labels true (number_code 10 x) (ones (return_code saved frame)) (number-fits 10 x (λ z. cc) (omega arith) v.0) returns
  ret last_operand.Immediate (operand.Host name ∷ []) h v = in-front labels true (number_code 10 (host_address name)) (ones (return_code saved frame)) (number-fits 10 (host_address name) (λ z. cc) (omega arith) (host-small name)) returns
  ret last_operand.Immediate (operand.Label l ∷ []) h v = record {
    items = (omega arith, return-fits saved frame);
    labels = (v.0, returns.labels);
    one_fix = λ place. let e = ap length (fixes-ones (place + 4 * 2) (return_code saved frame)) in omega (arith, e);
    some = λ e. omega arith;
  }
  ret last_operand.Register (x ∷ y ∷ ys) h v = absurd (never (admits form.Read x) h)
  ret last_operand.Immediate (x ∷ y ∷ ys) h v = absurd (never (admits form.Immediate x) h)
  ret last xs h v = absurd (differ h)

  align : (xs : List Operand) → admit (forms_of (op.Plain plain.Align)) xs ≡ true → AreEmitted labels false (items-of (op.Plain plain.Align) xs)
  align (operand.Number n ∷ []) h = plain-emitted labels false (align_code at n) (idle-fits (padding at n)) (λ e. absurd (differ e))
  align (operand.Number n ∷ y ∷ ys) h = absurd (never (is_alignment n) h)
  align xs h = absurd (differ h)

  nothing : AreEmitted labels false []
  nothing = nothing-emitted rv_holes IsItem NamesOneOf labels

  pub by-op : (o : Op) (xs : List Operand) → is_control o ≡ true → admit (forms_of o) xs ≡ true → AreGiven labels xs → ends_in_label xs ≡ false → AreEmitted labels (leaps o) (items-of o xs)
  by-op (op.Branch o last) xs c h v e = branch o last xs h v
  by-op (op.BranchSum o last) xs c h v e = sum-branch o last xs h v
  by-op (op.Control control.Jmp last_operand.Immediate) xs c h v e = jump xs h v
  by-op (op.Control control.Jmp last_operand.Register) xs c h v e = register-leap 0 xs (omega arith) h
  by-op (op.Control control.Call last_operand.Register) xs c h v e = register-leap 1 xs (omega arith) h
  by-op (op.Control control.Finish last_operand.Register) xs c h v e = register-leap 1 xs (omega arith) h
  by-op (op.Control control.Call last_operand.Immediate) xs c h v e = call xs h v
  by-op (op.Control control.Finish last_operand.Immediate) xs c h v e = call xs h v
  by-op (op.Control control.Ret last) xs c h v e = ret last xs h v
  by-op (op.Plain plain.Prolog) xs c h v e = plain-emitted labels false (prolog_code saved frame homes) (prolog-fits saved frame homes) (λ z. absurd (differ z))
  by-op (op.Plain plain.Epilog) xs c h v e = returns
  by-op (op.Plain plain.Ret) xs c h v e = returns
  by-op (op.Plain plain.Align) xs c h v e = align xs h
  by-op (op.Plain plain.Prepare) xs c h v e = nothing
  by-op (op.Plain plain.Ellipsis) xs c h v e = nothing
  by-op (op.Plain plain.Arg) xs c h v e = nothing
  by-op (op.Plain plain.Allocai) xs c h v e = nothing
  by-op (op.Plain plain.VaEnd) xs c h v e = nothing
  by-op o xs c h v e = absurd (differ c)

pub control-items-fit : ControlItemsFit
control-items-fit r n labels frame homes saved at c h v e = by-op r labels frame homes saved at n.op n.operands c h.forms v e
