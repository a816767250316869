-- Code that leads back to a label has the shortest form that reaches it, and code that leads ahead the near one.
use Rattle.std.proofs.Common.{◌≡◌, ℕ, ◌+◌, ◌-◌, Bool, true, false, List, [], ◌∷◌, ◌++◌, length, Option, Some, None, refl, sym, ap, ◌∙◌, subst, arith}
use Rattle.std.specs.Prelude.{◌==◌, ◌&&◌, ◌%◌, ◌^◌, pos, ◌-ℤ◌, nat_lt, if◌then◌else◌, slice_get, slice_index}
use Rattle.std.proofs.lemmas.Int.{ints}
use Rattle.lg_base.specs.HostNames.{host_address}
use Rattle.lg_base.specs.Layout.{code_base}
use Rattle.lg_base.specs.Words.{signed_view, is_half}
use Rattle.lg_base.specs.declared.target.Target.TheVariants.{X86_64}
use Rattle.lg_buf.specs.Buffers.{Buffer, place_of}
use Rattle.lg_buf.specs.Fixing.{Fits}
use Rattle.lg_buf.specs.declared.fixes.Fix.{Fix}
use Rattle.lg_buf.specs.declared.fixes.FixKind.TheVariants.{X86Rel8, X86Rel32}
use Rattle.lg_carry.specs.Blocks.{spellings}
use Rattle.lg_carry.specs.FinalNodes.{Code}
use Rattle.lg_selx_values.specs.Processor.Numbers.{number_row}
use Rattle.lg_op.specs.Forms.{admit, admits, forms_of, last_form}
use Rattle.lg_op.specs.declared.form.Form.TheVariants as form
use Rattle.lg_op.specs.declared.op.BranchSumOp.{BranchSumOp}
use Rattle.lg_op.specs.declared.op.Condition.{Condition}
use Rattle.lg_op.specs.declared.op.ControlOp.TheVariants as control
use Rattle.lg_op.specs.declared.op.LastOperand.{LastOperand}
use Rattle.lg_op.specs.declared.op.LastOperand.TheVariants as last_operand
use Rattle.lg_op.specs.declared.op.Op.{Op}
use Rattle.lg_op.specs.declared.op.Op.TheVariants as op
use Rattle.lg_op.specs.declared.operand.Label.{Label}
use Rattle.lg_op.specs.declared.operand.Operand.{Operand}
use Rattle.lg_op.specs.declared.operand.Operand.TheVariants as operand
use Rattle.lg_op.specs.declared.operand.Reg.{Reg}
use Rattle.lg_x86.specs.Spelling.{IsInstr, spelling}
use Rattle.lg_x86.specs.declared.instruction.Cond.{Cond}
use Rattle.lg_x86.specs.declared.instruction.ImmOp.TheVariants.{Andi, Cmpi}
use Rattle.lg_x86.specs.declared.instruction.Instr.{Instr}
use Rattle.lg_x86.specs.declared.instruction.Instr.TheVariants as instr
use Rattle.lg_sel.proofs.SelectionLemmas as selection
use Rattle.lg_sel.proofs.FinishedLemmas.{items-lead}
use Rattle.lg_sel.specs.Finished.{AreAppended}
use Rattle.lg_sel.specs.Selected.{IsFinished, part_of}
use Rattle.lg_sel.specs.Shorts.{LeadsBy, IsShort, IsAhead}
use Rattle.lg_selx.specs.Code.{x86_code}
use Rattle.lg_selx.specs.Shorts.{x86_is_relative, IsShortJumpIf, IsShortX86Jump, IsJumpIfAhead, IsX86JumpAhead}
use Rattle.lg_sel.proofs.OfControl.ControlLemmas.{differ, never, never-sum}
use Rattle.lg_sel.specs.Holes.{Each}
use Rattle.lg_sel.specs.Reaches.{may_wait, reach_ahead, Leads, LeadsTo, IsChecked, IsLeast}
use Rattle.lg_sel.specs.declared.reach.Reach.{Reach}
use Rattle.lg_sel.specs.declared.reach.Reach.TheVariants.{Short, Near, Far}
use Rattle.lg_selx.proofs.OfControl.ControlLemmas.{blanks-ones, branch-settled}
use Rattle.lg_selx.specs.Control.Branches.{comparison, is_difference, far_number, pointer_comparison, wide_comparison, word_comparison, before_branch, taken}
use Rattle.lg_selx.specs.Control.ControlItems.{jump_kind, branch_if_items, jump_items, branch_items, sum_items, control_items}
use Rattle.lg_selx.specs.Control.SumBranches.{sum_row, sum_number, number_sum, before_sum_branch, sum_taken}
use Rattle.lg_selx.specs.Control.TwoWays.{jump_if}
use Rattle.lg_selx_values.proofs.ItemLemmas.{fixes-append, fixes-ones}
use Rattle.lg_selx_values.proofs.PatchLemmas.{are-holes}
use Rattle.lg_selx_values.specs.Items.{x86_holes, IsItem, AreItems, settled, fixes_of, blanks, ones}
use Rattle.lg_selx_values.specs.declared.items.Item.{Item}
use Rattle.lg_selx_values.specs.declared.items.Item.TheVariants.{Jump}
use Rattle.lg_selx_values.specs.Scratch.{again}
use Rattle.lg_temp.specs.Abis.{register_of}

-- ---- instructions that do not count from their own place
abbrev Apart : Instr → Type 0
Apart i = x86_is_relative i ≡ false

number-apart : (reg v : ℕ) → Apart (number_row reg v)
number-apart reg v = by (nat_lt v (2 ^ 32)) (is_half v)
  where
    by : (b c : Bool) → Apart (if b then instr.Movi32 reg v else if c then instr.Movs32 reg (signed_view v) else instr.Movi64 reg v)
    by true c = refl
    by false true = refl
    by false false = refl

pointed-apart : (o : Condition) (frame v : ℕ) → Each Apart (pointer_comparison o frame v)
pointed-apart o frame v = by (is_difference o)
  where
    by : (b : Bool) → Each Apart (if b then instr.Imm Cmpi 5 (far_number v) ∷ [] else instr.Imm Andi 5 (pos (v % 2 ^ 30)) ∷ again frame)
    by true = (refl, tt)
    by false = (refl, (refl, tt))

wide-apart : (o : Condition) (frame a v : ℕ) → Each Apart (wide_comparison o frame a v)
wide-apart o frame a v = by (a == 5)
  where
    by : (b : Bool) → Each Apart (if b then pointer_comparison o frame v else number_row 5 v ∷ (instr.RmReg (comparison o) a 5 ∷ again frame))
    by true = pointed-apart o frame v
    by false = (number-apart 5 v, (refl, (refl, tt)))

compared-apart : (o : Condition) (frame a : ℕ) (x : Option ℕ) → Each Apart (word_comparison o frame a x)
compared-apart o frame a None = tt
compared-apart o frame a (Some v) = by (is_difference o && is_half v)
  where
    by : (b : Bool) → Each Apart (if b then instr.Imm Cmpi a (signed_view v) ∷ [] else wide_comparison o frame a v)
    by true = (refl, tt)
    by false = wide-apart o frame a v

before-apart : (frame : ℕ) (o : Condition) (a : Reg) (x : Operand) → Each Apart (before_branch frame o a x)
before-apart frame o a (operand.Reg b) = (refl, tt)
before-apart frame o a (operand.Number v) = compared-apart o frame (register_of X86_64 a) (Some v)
before-apart frame o a (operand.Host name) = compared-apart o frame (register_of X86_64 a) (Some (host_address name))
before-apart frame o a (operand.Label l) = tt
before-apart frame o a (operand.Slot k) = tt

added-apart : (o : BranchSumOp) (frame a v : ℕ) → Each Apart (number_sum o frame a v)
added-apart o frame a v = by (is_half v)
  where
    by : (b : Bool) → Each Apart (if b then instr.Imm (sum_number o) a (signed_view v) ∷ [] else number_row 5 v ∷ (instr.RmReg (sum_row o) a 5 ∷ again frame))
    by true = (refl, tt)
    by false = (number-apart 5 v, (refl, (refl, tt)))

before-sum-apart : (frame : ℕ) (o : BranchSumOp) (a : Reg) (x : Operand) → Each Apart (before_sum_branch frame o a x)
before-sum-apart frame o a (operand.Reg b) = (refl, tt)
before-sum-apart frame o a (operand.Number v) = added-apart o frame (register_of X86_64 a) v
before-sum-apart frame o a (operand.Host name) = added-apart o frame (register_of X86_64 a) (host_address name)
before-sum-apart frame o a (operand.Label l) = tt
before-sum-apart frame o a (operand.Slot k) = tt

-- ---- fixes
abbrev jump-fix : Reach → ℕ → Label → Fix
jump-fix Short p l = record { place = p + 1; kind = X86Rel8; label = record { 0 = l.0 } }
jump-fix r p l = record { place = p + 2; kind = X86Rel32; label = record { 0 = l.0 } }

jump-fixes : (r : Reach) (p : ℕ) (holds : Cond) (l : Label) → fixes_of p (Jump (jump_kind r holds) l.0 ∷ []) ≡ jump-fix r p l ∷ []
jump-fixes Short p holds l = refl
jump-fixes o p holds l = refl

branch-fixes : (r : Reach) (p : ℕ) (front : List Instr) (holds : Cond) (l : Label)
    → fixes_of p (branch_if_items r front holds l) ≡ jump-fix r (p + length (spellings spelling front)) l ∷ []
branch-fixes r p front holds l =
    let last : List Item = Jump (jump_kind r holds) l.0 ∷ [] in
    fixes-append p (ones front) last ∙ ap (λ z. z ++ fixes_of (p + length (blanks (ones front))) last) (fixes-ones p front)
    ∙ ap (λ b. fixes_of (p + length b) last) (blanks-ones front) ∙ jump-fixes r (p + length (spellings spelling front)) holds l

abbrev plain-fix : Reach → ℕ → Label → Fix
plain-fix Short p l = record { place = p + 1; kind = X86Rel8; label = record { 0 = l.0 } }
plain-fix r p l = record { place = p + 1; kind = X86Rel32; label = record { 0 = l.0 } }

plain-fixes : (r : Reach) (p : ℕ) (l : Label) → fixes_of p (jump_items r (operand.Label l ∷ [])) ≡ plain-fix r p l ∷ []
plain-fixes Short p l = refl
plain-fixes o p l = refl

-- ---- the branches
-- items of each reach that lead to a label, the first operand: instructions that do not count from their own place, and a jump on a condition after them
record IsBranchTo (xs : List Operand) (items : Reach → List Item) : Type 0 where
  front : List Instr
  apart : Each Apart front
  holds : Cond
  label : Label
  names : slice_get xs 0 ≡ Some (operand.Label label)
  are : (r : Reach) → items r ≡ branch_if_items r front holds label

module _ (frame : ℕ) where
  branch-leads : (o : Condition) (last : LastOperand) (xs : List Operand) → admit (forms_of (op.Branch o last)) xs ≡ true → IsBranchTo xs (λ r. branch_items r frame o xs)
  branch-leads o last (operand.Label l ∷ operand.Reg a ∷ x ∷ []) admitted =
      record { front = before_branch frame o a x; apart = before-apart frame o a x; holds = taken o; label = l; names = refl; are = λ r. refl }
  branch-leads o last (operand.Label l ∷ operand.Reg a ∷ x ∷ y ∷ ys) admitted = absurd (never (admits (last_form last) x) admitted)
  branch-leads o last xs admitted = absurd (differ admitted)

  sum-leads : (o : BranchSumOp) (last : LastOperand) (xs : List Operand) → admit (forms_of (op.BranchSum o last)) xs ≡ true → IsBranchTo xs (λ r. sum_items r frame o xs)
  sum-leads o last (operand.Label l ∷ operand.Reg a ∷ x ∷ []) admitted =
      record { front = before_sum_branch frame o a x; apart = before-sum-apart frame o a x; holds = sum_taken o; label = l; names = refl; are = λ r. refl }
  sum-leads o last (operand.Label l ∷ operand.Reg a ∷ x ∷ y ∷ ys) admitted = absurd (never-sum (admits form.Update (operand.Reg a)) (admits (last_form last) x) admitted)
  sum-leads o last (operand.Label l ∷ operand.Reg a ∷ []) admitted = absurd (never (admits form.Update (operand.Reg a)) admitted)
  sum-leads o last xs admitted = absurd (differ admitted)

-- ---- the node in its buffer
module _ (old new : Buffer) (code : List ℕ) (c : Code) (i : ℕ) (f : IsFinished old new code c i) where
  abbrev place : ℕ
  place = length old.bytes

  abbrev to : ℕ → ℕ
  to = slice_index c.addresses

  abbrev part : List ℕ
  part = part_of code place (length new.bytes - place)

  -- items that lead to a label become what has a form
  abbrev IsLed : (ℕ → List Instr → Type 0) → Type 0
  IsLed has_form = LeadsBy spelling IsInstr x86_is_relative has_form place part

  module _ (xs : List Operand) (items : Reach → List Item) (k : IsBranchTo xs items) where
    abbrev from : ℕ
    from = place + length (spellings spelling k.front)

    branch-fix : (r : Reach) → fixes_of place (items r) ≡ jump-fix r from k.label ∷ []
    branch-fix r = ap (fixes_of place) (k.are r) ∙ branch-fixes r place k.front k.holds k.label

    branch-led : (has_form : ℕ → List Instr → Type 0) (r : Reach) → AreAppended x86_holes old new (items r) → AreItems (items r) → (leap : Instr)
        → jump_if r k.holds (code_base + place + length (spellings spelling k.front)) (to k.label.0) ≡ leap → x86_is_relative leap ≡ true → has_form from (leap ∷ []) → IsLed has_form
    branch-led has_form r appended fit leap same leads form =
        items-lead x86_holes spelling IsInstr IsItem are-holes x86_is_relative has_form old new code c i (items r) appended fit f k.front leap []
        (ap (settled to (code_base + place)) (k.are r) ∙ branch-settled r to (code_base + place) k.front k.holds k.label ∙ ap (λ z. k.front ++ z ∷ []) same) k.apart leads form

  jump-led : (has_form : ℕ → List Instr → Type 0) (leap : Instr) (items : List Item) → AreAppended x86_holes old new items → AreItems items
      → settled to (code_base + place) items ≡ leap ∷ [] → x86_is_relative leap ≡ true → has_form place (leap ∷ []) → IsLed has_form
  jump-led has_form leap items appended fit become leads form =
      items-lead x86_holes spelling IsInstr IsItem are-holes x86_is_relative has_form old new code c i items appended fit f [] leap [] become tt leads
      (let z : place + 0 ≡ place = omega arith in subst (λ p. has_form p (leap ∷ [])) (sym z) form)

  -- ---- back to a label that is bound
  module _ (goal frame homes saved : ℕ) where
    does-of : (l : Label) (g : Fix) (gs : List Fix) → place_of old.labels l.0 ≡ Some goal → gs ≡ g ∷ [] → g.label ≡ record { 0 = l.0 } → Fits g.kind g.place goal → Each (Leads old) gs
    does-of l g gs bound is same fits =
        subst (Each (Leads old)) (sym is) (subst (LeadsTo old.size g) (sym (ap (λ m. place_of old.labels m.0) same ∙ bound)) fits, tt)

    branch-short : (r : Reach) (xs : List Operand) (items : Reach → List Item) (k : IsBranchTo xs items) → AreAppended x86_holes old new (items r) → AreItems (items r)
        → place_of old.labels k.label.0 ≡ Some goal → to k.label.0 ≡ code_base + goal → IsLeast (λ s. Each (Leads old) (fixes_of place (items s))) r → IsLed (IsShortJumpIf goal)
    branch-short Short xs items k appended fit bound address least =
        let start : ℕ = from xs items k in
        let away : pos (to k.label.0) -ℤ pos (code_base + place + length (spellings spelling k.front) + 2) ≡ pos goal -ℤ pos (start + 2) = omega (arith, ints, address) in
        branch-led xs items k (IsShortJumpIf goal) Short appended fit (instr.JumpIfShort k.holds (pos goal -ℤ pos (start + 2))) (ap (instr.JumpIfShort k.holds) away) refl
        (λ near. (k.holds, refl))
    branch-short Near xs items k appended fit bound address least =
        branch-led xs items k (IsShortJumpIf goal) Near appended fit _ refl refl
        (λ near. absurd (least (does-of k.label (jump-fix Short (from xs items k) k.label) _ bound (branch-fix xs items k Short) refl near)))
    branch-short Far xs items k appended fit bound address least =
        branch-led xs items k (IsShortJumpIf goal) Far appended fit _ refl refl
        (λ near. absurd (least.0 (does-of k.label (jump-fix Short (from xs items k) k.label) _ bound (branch-fix xs items k Short) refl near)))

    jump-short : (r : Reach) (l : Label) → AreAppended x86_holes old new (jump_items r (operand.Label l ∷ [])) → AreItems (jump_items r (operand.Label l ∷ []))
        → place_of old.labels l.0 ≡ Some goal → to l.0 ≡ code_base + goal → IsLeast (λ s. Each (Leads old) (fixes_of place (jump_items s (operand.Label l ∷ [])))) r
        → IsLed (IsShortX86Jump goal)
    jump-short Short l appended fit bound address least =
        let away : pos (to l.0) -ℤ pos (code_base + place + 2) ≡ pos goal -ℤ pos (place + 2) = omega (arith, ints, address) in
        jump-led (IsShortX86Jump goal) (instr.JumpShort (pos goal -ℤ pos (place + 2))) (jump_items Short (operand.Label l ∷ [])) appended fit
        (ap (λ d. instr.JumpShort d ∷ []) away) refl (λ near. refl)
    jump-short Near l appended fit bound address least =
        jump-led (IsShortX86Jump goal) _ (jump_items Near (operand.Label l ∷ [])) appended fit refl refl
        (λ near. absurd (least (does-of l (plain-fix Short place l) _ bound (plain-fixes Short place l) refl near)))
    jump-short Far l appended fit bound address least =
        jump-led (IsShortX86Jump goal) _ (jump_items Far (operand.Label l ∷ [])) appended fit refl refl
        (λ near. absurd (least.0 (does-of l (plain-fix Short place l) _ bound (plain-fixes Short place l) refl near)))

    -- what is known of the operands of a node with this reach
    abbrev IsKnown : Reach → Op → List Operand → Type 0
    IsKnown r o xs = selection.IsKnown x86_holes IsItem old new to goal (λ s. control_items s o xs frame homes saved place) r o xs

    short : (r : Reach) (o : Op) (xs : List Operand) → IsKnown r o xs → (b : IsBranchTo xs (λ s. control_items s o xs frame homes saved place)) → IsLed (IsShortJumpIf goal)
    short r o xs k b = let L = k.labels b.label b.names in branch-short r xs (λ s. control_items s o xs frame homes saved place) b k.appended k.fit L.0 L.1 k.least

    pub node-short : (r : Reach) (o : Op) (xs : List Operand) (l : Label) → slice_get xs 0 ≡ Some (operand.Label l) → IsKnown r o xs → IsShort x86_code o goal place part
    node-short r (op.Branch o last) xs l first k = short r (op.Branch o last) xs k (branch-leads frame o last xs k.admitted)
    node-short r (op.BranchSum o last) xs l first k = short r (op.BranchSum o last) xs k (sum-leads frame o last xs k.admitted)
    node-short r (op.Control control.Jmp last_operand.Immediate) (operand.Label m ∷ []) l first k = jump-short r m k.appended k.fit (k.labels m refl).0 (k.labels m refl).1 k.least
    node-short r (op.Control control.Jmp last_operand.Immediate) xs l first k = absurd (differ k.admitted)
    node-short r (op.Control control.Call last_operand.Immediate) xs l first k = tt
    node-short r (op.Control control.Finish last_operand.Immediate) xs l first k = tt
    node-short r o xs l first k = tt

  -- ---- ahead to one that is not: a field of 8 bits does not wait for it
  never-waits : (l : Label) (g : Fix) (gs : List Fix) → place_of old.labels l.0 ≡ None → gs ≡ g ∷ [] → g.label ≡ record { 0 = l.0 } → g.kind ≡ X86Rel8
      → Each (IsChecked Short old) gs → ⊥
  never-waits l g gs free is same short checked =
      let one : IsChecked Short old g = (subst (Each (IsChecked Short old)) is checked).0 in
      let waits : LeadsTo old.size g None = subst (LeadsTo old.size g) (ap (λ m. place_of old.labels m.0) same ∙ free) (one tt) in
      differ (sym (ap (λ kind. may_wait kind old.size) short) ∙ waits)

  branch-ahead : (r : Reach) (xs : List Operand) (items : Reach → List Item) (k : IsBranchTo xs items) → AreAppended x86_holes old new (items r)
      → AreItems (items r) → place_of old.labels k.label.0 ≡ None → Each (IsChecked r old) (fixes_of place (items r)) → IsLed IsJumpIfAhead
  branch-ahead Short xs items k appended fit free checked =
      absurd (never-waits k.label (jump-fix Short (from xs items k) k.label) _ free (branch-fix xs items k Short) refl refl checked)
  branch-ahead Near xs items k appended fit free checked = branch-led xs items k IsJumpIfAhead Near appended fit _ refl refl (k.holds, _, refl)
  branch-ahead Far xs items k appended fit free checked = branch-led xs items k IsJumpIfAhead Far appended fit _ refl refl (k.holds, _, refl)

  jump-ahead : (r : Reach) (l : Label) → AreAppended x86_holes old new (jump_items r (operand.Label l ∷ [])) → AreItems (jump_items r (operand.Label l ∷ []))
      → place_of old.labels l.0 ≡ None → Each (IsChecked r old) (fixes_of place (jump_items r (operand.Label l ∷ []))) → IsLed IsX86JumpAhead
  jump-ahead Short l appended fit free checked = absurd (never-waits l (plain-fix Short place l) _ free (plain-fixes Short place l) refl refl checked)
  jump-ahead Near l appended fit free checked = jump-led IsX86JumpAhead _ (jump_items Near (operand.Label l ∷ [])) appended fit refl refl (_, refl)
  jump-ahead Far l appended fit free checked = jump-led IsX86JumpAhead _ (jump_items Far (operand.Label l ∷ [])) appended fit refl refl (_, refl)

  module _ (frame homes saved : ℕ) where
    abbrev IsKnownAhead : Reach → Op → List Operand → Type 0
    IsKnownAhead r o xs = selection.IsKnownAhead x86_holes IsItem old new (λ s. control_items s o xs frame homes saved place) r o xs

    ahead : (r : Reach) (o : Op) (xs : List Operand) → IsKnownAhead r o xs → IsBranchTo xs (λ s. control_items s o xs frame homes saved place) → IsLed IsJumpIfAhead
    ahead r o xs k b = branch-ahead r xs (λ s. control_items s o xs frame homes saved place) b k.appended k.fit (k.labels b.label b.names) k.checked

    pub node-ahead : (r : Reach) (o : Op) (xs : List Operand) (l : Label) → slice_get xs 0 ≡ Some (operand.Label l) → IsKnownAhead r o xs → IsAhead x86_code (reach_ahead old.size) o place part
    node-ahead r (op.Branch o last) xs l first k = ahead r (op.Branch o last) xs k (branch-leads frame o last xs k.admitted)
    node-ahead r (op.BranchSum o last) xs l first k = ahead r (op.BranchSum o last) xs k (sum-leads frame o last xs k.admitted)
    node-ahead r (op.Control control.Jmp last_operand.Immediate) (operand.Label m ∷ []) l first k = jump-ahead r m k.appended k.fit (k.labels m refl) k.checked
    node-ahead r (op.Control control.Jmp last_operand.Immediate) xs l first k = absurd (differ k.admitted)
    node-ahead r (op.Control control.Call last_operand.Immediate) xs l first k = tt
    node-ahead r (op.Control control.Finish last_operand.Immediate) xs l first k = tt
    node-ahead r o xs l first k = tt
