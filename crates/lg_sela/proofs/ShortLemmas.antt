-- Code that leads back to a label has the shortest form that reaches it, and code that leads ahead the one that the buffer's size asks for.
use Rattle.std.proofs.Common.{◌≡◌, ℕ, ◌+◌, ◌-◌, ◌*◌, ◌/◌, ◌%◌, ◌^◌, Bool, true, false, List, [], ◌∷◌, ◌++◌, length, None, Some, refl, sym, ap, ◌∙◌, subst, arith, append_assoc}
use Rattle.std.specs.Prelude.{◌==◌, pos, ◌+ℤ◌, ◌*ℤ◌, nat_lt, if◌then◌else◌, slice_get, slice_index}
use Rattle.std.proofs.lemmas.Int.{ints}
use Rattle.lg_base.specs.HostNames.{host_address}
use Rattle.lg_base.specs.Layout.{code_base}
use Rattle.lg_base.specs.Words.{complement, negated}
use Rattle.lg_base.specs.declared.target.Target.TheVariants.{Aarch64}
use Rattle.lg_buf.specs.Buffers.{Buffer, place_of}
use Rattle.lg_buf.specs.Fixing.{Fits}
use Rattle.lg_buf.specs.declared.fixes.Fix.{Fix}
use Rattle.lg_buf.specs.declared.fixes.FixKind.TheVariants.{A64Branch26, A64Cond19}
use Rattle.lg_carry.specs.Blocks.{spellings}
use Rattle.lg_carry.specs.FinalNodes.{Code}
use Rattle.lg_sela_values.specs.Processor.A64Rows.{link, zero_register}
use Rattle.lg_sela_values.specs.Processor.Numbers.{quarter_code, is_low, positive_code, negative_code, number_code}
use Rattle.lg_sela_values.specs.Processor.Numbers as numbers
use Rattle.lg_sela_values.proofs.OfProcessor.ComputerLemmas.{spellings-long}
use Rattle.lg_op.specs.Forms.{admit, admits, forms_of, last_form}
use Rattle.lg_op.specs.declared.form.Form.TheVariants as form
use Rattle.lg_op.specs.declared.op.BranchSumOp.{BranchSumOp}
use Rattle.lg_op.specs.declared.op.BranchSumOp.TheVariants as sum
use Rattle.lg_op.specs.declared.op.Condition.{Condition}
use Rattle.lg_op.specs.declared.op.Condition.TheVariants as condition
use Rattle.lg_op.specs.declared.op.ControlOp.TheVariants as control
use Rattle.lg_op.specs.declared.op.LastOperand.{LastOperand}
use Rattle.lg_op.specs.declared.op.LastOperand.TheVariants as last_operand
use Rattle.lg_op.specs.declared.op.Op.{Op}
use Rattle.lg_op.specs.declared.op.Op.TheVariants as op
use Rattle.lg_op.specs.declared.operand.Label.{Label}
use Rattle.lg_op.specs.declared.operand.Operand.{Operand}
use Rattle.lg_op.specs.declared.operand.Operand.TheVariants as operand
use Rattle.lg_a64.specs.Spelling.{IsInstr, spelling}
use Rattle.lg_a64.specs.declared.instruction.Cond.{Cond}
use Rattle.lg_a64.specs.declared.instruction.ImmOp.TheVariants.{Addsi, Subsi}
use Rattle.lg_a64.specs.declared.instruction.Instr.{Instr}
use Rattle.lg_a64.specs.declared.instruction.Instr.TheVariants as instr
use Rattle.lg_a64.specs.declared.instruction.WideOp.TheVariants.{Movk}
use Rattle.lg_sel.proofs.SelectionLemmas as selection
use Rattle.lg_sel.proofs.FinishedLemmas.{items-lead}
use Rattle.lg_sel.specs.Finished.{AreAppended}
use Rattle.lg_sel.specs.Selected.{IsFinished, part_of}
use Rattle.lg_sel.specs.Shorts.{LeadsBy, IsShort, IsAhead}
use Rattle.lg_sela.specs.Code.{a64_code}
use Rattle.lg_sela.specs.Shorts.{a64_is_relative, IsShortBranchIf, IsBranchIfAhead}
use Rattle.lg_sel.proofs.OfControl.ControlLemmas.{differ, never, never-sum}
use Rattle.lg_sel.specs.Holes.{Each}
use Rattle.lg_sel.proofs.ListLemmas.{each-append}
use Rattle.lg_sel.specs.Reaches.{reach_ahead, may_wait, Leads, LeadsTo, IsLeast, IsLeastAhead}
use Rattle.lg_sel.proofs.ReachLemmas.{size-small, size-near, small-near}
use Rattle.lg_sel.specs.declared.reach.Reach.{Reach}
use Rattle.lg_sel.specs.declared.reach.Reach.TheVariants.{Short, Near, Far}
use Rattle.lg_sela.proofs.OfControl.ControlLemmas.{second-is, compared-is, branch-settled}
use Rattle.lg_sela_values.specs.BinaryCode.{is_small}
use Rattle.lg_sela.specs.Control.Branches.{comparison, is_held, number_comparison, taken, turned}
use Rattle.lg_sela.specs.Control.ControlItems.{second_register, comparing, leads_items, branch_if_items, branch_items, sum_items, control_items}
use Rattle.lg_sela.specs.Control.SumBranches.{sum_instruction, sum_taken}
use Rattle.lg_sela.specs.Control.TwoWays.{second_code, compared_code, leads_if}
use Rattle.lg_sela_values.proofs.ItemLemmas.{words-ones, ones-append, fixes-append, fixes-ones}
use Rattle.lg_sela_values.proofs.PatchLemmas.{are-holes}
use Rattle.lg_sela_values.specs.Items.{a64_holes, words_between, IsItem, AreItems, bytes_in, settled, fixes_of, ones}
use Rattle.lg_sela_values.specs.declared.items.Item.{Item}
use Rattle.lg_temp.specs.Abis.{register_of}

-- ---- instructions that do not count from their own place
abbrev Apart : Instr → Type 0
Apart i = a64_is_relative i ≡ false

quarter-apart : (rd part hw : ℕ) → Each Apart (quarter_code rd part hw)
quarter-apart rd part hw = by (part == 0)
  where
    by : (b : Bool) → Each Apart (if b then [] else instr.Wide Movk rd part hw ∷ [])
    by true = tt
    by false = (refl, tt)

positive-apart : (rd v : ℕ) → Each Apart (positive_code rd v)
positive-apart rd v =
    let second : ℕ = v / 2 ^ 16 % 2 ^ 16 in
    let third : ℕ = v / 2 ^ 32 % 2 ^ 16 in
    let fourth : ℕ = v / 2 ^ 48 % 2 ^ 16 in
    let upper : Each Apart (quarter_code rd third 2 ++ quarter_code rd fourth 3) =
    each-append Apart (quarter_code rd third 2) (quarter_code rd fourth 3) (quarter-apart rd third 2) (quarter-apart rd fourth 3) in
    by (is_low v) (v % 2 ^ 32 == 0) (v % 2 ^ 48 == 0)
    (refl, each-append Apart (quarter_code rd second 1) (quarter_code rd third 2 ++ quarter_code rd fourth 3) (quarter-apart rd second 1) upper)
    (refl, upper) (refl, quarter-apart rd fourth 3)
  where
    by : (a b c : Bool) → Each Apart (numbers.first_code rd v) → Each Apart (numbers.second_code rd v) → Each Apart (numbers.third_code rd v)
        → Each Apart (if a then numbers.first_code rd v else if b then (if c then numbers.fourth_code rd v else numbers.third_code rd v) else numbers.second_code rd v)
    by true b c x y z = x
    by false true true x y z = (refl, tt)
    by false true false x y z = z
    by false false c x y z = y

negative-apart : (rd v : ℕ) → Each Apart (negative_code rd v)
negative-apart rd v = (refl, by (v / 2 ^ 16 % 2 ^ 16 == 65535))
  where
    by : (b : Bool) → Each Apart (if b then [] else instr.Wide Movk rd (v / 2 ^ 16 % 2 ^ 16) 1 ∷ [])
    by true = tt
    by false = (refl, tt)

number-apart : (rd v : ℕ) → Each Apart (number_code rd v)
number-apart rd v = by (nat_lt (complement v) (2 ^ 32))
  where
    by : (b : Bool) → Each Apart (if b then negative_code rd v else positive_code rd v)
    by true = negative-apart rd v
    by false = positive-apart rd v

second-apart : (x : Operand) → Each Apart (second_code x)
second-apart (operand.Number v) = number-apart link v
second-apart (operand.Host name) = number-apart link (host_address name)
second-apart x = tt

comparison-apart : (o : Condition) (a b : ℕ) → Each Apart (comparison o a b ∷ [])
comparison-apart condition.Ms a b = (refl, tt)
comparison-apart condition.Mc a b = (refl, tt)
comparison-apart o a b = (refl, tt)

compared-apart : (o : Condition) (x : Operand) → Each Apart (compared_code o x)
compared-apart o (operand.Number v) = by (is_held o v)
  where
    by : (b : Bool) → Each Apart (if b then [] else number_code link v)
    by true = tt
    by false = number-apart link v
compared-apart o (operand.Reg b) = tt
compared-apart o (operand.Host name) = second-apart (operand.Host name)
compared-apart o (operand.Label l) = tt
compared-apart o (operand.Slot k) = tt

held-apart : (a v : ℕ) → Each Apart (number_comparison a v ∷ [])
held-apart a v = by (is_small v)
  where
    by : (b : Bool) → Each Apart ((if b then instr.Imm Subsi zero_register a v false else instr.Imm Addsi zero_register a (negated v) false) ∷ [])
    by true = (refl, tt)
    by false = (refl, tt)

comparing-apart : (o : Condition) (a : ℕ) (x : Operand) → Each Apart (comparing o a x ∷ [])
comparing-apart o a (operand.Number v) = by (is_held o v)
  where
    by : (b : Bool) → Each Apart ((if b then number_comparison a v else comparison o a link) ∷ [])
    by true = held-apart a v
    by false = comparison-apart o a link
comparing-apart o a (operand.Reg b) = comparison-apart o a (register_of Aarch64 b)
comparing-apart o a (operand.Host name) = comparison-apart o a link
comparing-apart o a x = comparison-apart o a link

sum-apart : (o : BranchSumOp) (a b : ℕ) → Each Apart (sum_instruction o a b ∷ [])
sum-apart sum.OverflowAdd a b = (refl, tt)
sum-apart o a b = (refl, tt)

-- ---- fixes
abbrev lead-fix : Reach → ℕ → Label → Fix
lead-fix Far p l = record { place = p + 4; kind = A64Branch26; label = record { 0 = l.0 } }
lead-fix r p l = record { place = p; kind = A64Cond19; label = record { 0 = l.0 } }

lead-fixes : (r : Reach) (p : ℕ) (holds : Cond) (l : Label) → fixes_of p (leads_items r holds l) ≡ lead-fix r p l ∷ []
lead-fixes Short p holds l = refl
lead-fixes o p holds l = refl

branch-fixes : (r : Reach) (p : ℕ) (xs : List Instr) (sets : Instr) (holds : Cond) (l : Label)
    → fixes_of p (ones xs ++ branch_if_items r sets holds l) ≡ lead-fix r (p + 4 * length (xs ++ (sets ∷ []))) l ∷ []
branch-fixes r p xs sets holds l =
    let front = xs ++ (sets ∷ []) in
    let last : List Item = leads_items r holds l in
    let joined : ones xs ++ branch_if_items r sets holds l ≡ ones front ++ last =
    sym (append_assoc (ones xs) (ones (sets ∷ [])) last) ∙ ap (λ z. z ++ last) (sym (ones-append xs (sets ∷ []))) in
    let size = words-ones front in
    let place : p + bytes_in (ones front) ≡ p + 4 * length front = omega (arith, size) in
    ap (fixes_of p) joined ∙ fixes-append p (ones front) last ∙ ap (λ z. z ++ fixes_of (p + bytes_in (ones front)) last) (fixes-ones p front)
    ∙ ap (λ q. fixes_of q last) place ∙ lead-fixes r (p + 4 * length front) holds l

-- ---- the branches
-- items of each reach that lead to a label, the first operand: instructions that do not count from their own place, the last of which sets the flags, and
-- what branches on a condition after them
record IsBranchTo (xs : List Operand) (items : Reach → List Item) : Type 0 where
  first : List Instr
  sets : Instr
  apart : Each Apart (first ++ (sets ∷ []))
  holds : Cond
  label : Label
  names : slice_get xs 0 ≡ Some (operand.Label label)
  are : (r : Reach) → items r ≡ ones first ++ branch_if_items r sets holds label

branch-leads : (o : Condition) (last : LastOperand) (xs : List Operand) → admit (forms_of (op.Branch o last)) xs ≡ true → IsBranchTo xs (λ r. branch_items r o xs)
branch-leads o last (operand.Label l ∷ operand.Reg a ∷ x ∷ []) admitted =
    let sets : Instr = comparing o (register_of Aarch64 a) x in record {
      first = compared_code o x;
      sets = sets;
      apart = each-append Apart (compared_code o x) (sets ∷ []) (compared-apart o x) (comparing-apart o (register_of Aarch64 a) x);
      holds = taken o;
      label = l;
      names = refl;
      are = λ r. ap (λ ys. ys ++ branch_if_items r sets (taken o) l) (compared-is o x);
    }
branch-leads o last (operand.Label l ∷ operand.Reg a ∷ x ∷ y ∷ ys) admitted = absurd (never (admits (last_form last) x) admitted)
branch-leads o last xs admitted = absurd (differ admitted)

sum-leads : (o : BranchSumOp) (last : LastOperand) (xs : List Operand) → admit (forms_of (op.BranchSum o last)) xs ≡ true → IsBranchTo xs (λ r. sum_items r o xs)
sum-leads o last (operand.Label l ∷ operand.Reg a ∷ x ∷ []) admitted =
    let sets : Instr = sum_instruction o (register_of Aarch64 a) (second_register x) in record {
      first = second_code x;
      sets = sets;
      apart = each-append Apart (second_code x) (sets ∷ []) (second-apart x) (sum-apart o (register_of Aarch64 a) (second_register x));
      holds = sum_taken o;
      label = l;
      names = refl;
      are = λ r. ap (λ ys. ys ++ branch_if_items r sets (sum_taken o) l) (second-is x);
    }
sum-leads o last (operand.Label l ∷ operand.Reg a ∷ x ∷ y ∷ ys) admitted = absurd (never-sum (admits form.Update (operand.Reg a)) (admits (last_form last) x) admitted)
sum-leads o last (operand.Label l ∷ operand.Reg a ∷ []) admitted = absurd (never (admits form.Update (operand.Reg a)) admitted)
sum-leads o last xs admitted = absurd (differ admitted)

-- ---- the node in its buffer
module _ (old new : Buffer) (code : List ℕ) (c : Code) (i : ℕ) (f : IsFinished old new code c i) where
  abbrev place : ℕ
  place = length old.bytes

  abbrev to : ℕ → ℕ
  to = slice_index c.addresses

  abbrev part : List ℕ
  part = part_of code place (length new.bytes - place)

  -- items that lead to a label become what has a form
  abbrev IsLed : (ℕ → List Instr → Type 0) → Type 0
  IsLed has_form = LeadsBy spelling IsInstr a64_is_relative has_form place part

  module _ (xs : List Operand) (items : Reach → List Item) (k : IsBranchTo xs items) where
    abbrev front : List Instr
    front = k.first ++ (k.sets ∷ [])

    abbrev from : ℕ
    from = place + 4 * length front

    branch-fix : (r : Reach) → fixes_of place (items r) ≡ lead-fix r from k.label ∷ []
    branch-fix r = ap (fixes_of place) (k.are r) ∙ branch-fixes r place k.first k.sets k.holds k.label

    branch-led : (has_form : ℕ → List Instr → Type 0) (r : Reach) → AreAppended a64_holes old new (items r) → AreItems (items r) → (leap : Instr) (rest : List Instr)
        → leads_if r k.holds (code_base + place + 4 * length front) (to k.label.0) ≡ leap ∷ rest → a64_is_relative leap ≡ true → has_form from (leap ∷ rest) → IsLed has_form
    branch-led has_form r appended fit leap rest same leads form =
        let long = spellings-long front in
        let starts : place + length (spellings spelling front) ≡ from = omega (arith, long) in
        let become : settled to (code_base + place) (items r) ≡ front ++ leads_if r k.holds (code_base + place + 4 * length front) (to k.label.0) =
        ap (settled to (code_base + place)) (k.are r) ∙ branch-settled r to (code_base + place) k.first k.sets k.holds k.label in
        items-lead a64_holes spelling IsInstr IsItem are-holes a64_is_relative has_form old new code c i (items r) appended fit f front leap rest
        (become ∙ ap (λ z. front ++ z) same) k.apart leads (subst (λ p. has_form p (leap ∷ rest)) (sym starts) form)

  -- ---- back to a label that is bound
  module _ (goal frame homes saved : ℕ) where
    does-of : (l : Label) (g : Fix) (gs : List Fix) → place_of old.labels l.0 ≡ Some goal → gs ≡ g ∷ [] → g.label ≡ record { 0 = l.0 } → Fits g.kind g.place goal → Each (Leads old) gs
    does-of l g gs bound is same fits =
        subst (Each (Leads old)) (sym is) (subst (LeadsTo old.size g) (sym (ap (λ m. place_of old.labels m.0) same ∙ bound)) fits, tt)

    -- words away are four times as many bytes
    away : (start : ℕ) → (goal % 4 ≡ start % 4) → pos start +ℤ (words_between (code_base + start) (code_base + goal) *ℤ pos 4) ≡ pos goal
    away start even = omega (arith, ints, even)

    branch-short : (r : Reach) (xs : List Operand) (items : Reach → List Item) (k : IsBranchTo xs items) → AreAppended a64_holes old new (items r) → AreItems (items r)
        → place_of old.labels k.label.0 ≡ Some goal → to k.label.0 ≡ code_base + goal → IsLeast (λ s. Each (Leads old) (fixes_of place (items s))) r
        → IsLed (IsShortBranchIf goal)
    branch-short Short xs items k appended fit bound address least =
        let start : ℕ = from xs items k in
        let at : code_base + place + 4 * length (k.first ++ (k.sets ∷ [])) ≡ code_base + start = omega arith in
        branch-led xs items k (IsShortBranchIf goal) Short appended fit (instr.BranchIf k.holds (words_between (code_base + start) (code_base + goal))) []
        (λ j. instr.BranchIf k.holds (words_between (at j) (address j)) ∷ []) refl
        (λ near. (k.holds, words_between (code_base + start) (code_base + goal), refl, away start near.1))
    branch-short Near xs items k appended fit bound address least =
        let start : ℕ = from xs items k in
        let at : code_base + place + 4 * length (k.first ++ (k.sets ∷ [])) ≡ code_base + start = omega arith in
        branch-led xs items k (IsShortBranchIf goal) Near appended fit (instr.BranchIf k.holds (words_between (code_base + start) (code_base + goal))) []
        (λ j. instr.BranchIf k.holds (words_between (at j) (address j)) ∷ []) refl
        (λ near. (k.holds, words_between (code_base + start) (code_base + goal), refl, away start near.1))
    branch-short Far xs items k appended fit bound address least =
        branch-led xs items k (IsShortBranchIf goal) Far appended fit _ _ refl refl
        (λ near. absurd (least.0 (does-of k.label (lead-fix Short (from xs items k) k.label) _ bound (branch-fix xs items k Short) refl near)))

    -- what is known of the operands of a node with this reach
    abbrev IsKnown : Reach → Op → List Operand → Type 0
    IsKnown r o xs = selection.IsKnown a64_holes IsItem old new to goal (λ s. control_items s o xs frame homes saved place) r o xs

    short : (r : Reach) (o : Op) (xs : List Operand) → IsKnown r o xs → (b : IsBranchTo xs (λ s. control_items s o xs frame homes saved place)) → IsLed (IsShortBranchIf goal)
    short r o xs k b = let L = k.labels b.label b.names in branch-short r xs (λ s. control_items s o xs frame homes saved place) b k.appended k.fit L.0 L.1 k.least

    pub node-short : (r : Reach) (o : Op) (xs : List Operand) (l : Label) → slice_get xs 0 ≡ Some (operand.Label l) → IsKnown r o xs → IsShort a64_code o goal place part
    node-short r (op.Branch o last) xs l first k = short r (op.Branch o last) xs k (branch-leads o last xs k.admitted)
    node-short r (op.BranchSum o last) xs l first k = short r (op.BranchSum o last) xs k (sum-leads o last xs k.admitted)
    node-short r (op.Control control.Jmp last_operand.Immediate) xs l first k = tt
    node-short r (op.Control control.Call last_operand.Immediate) xs l first k = tt
    node-short r (op.Control control.Finish last_operand.Immediate) xs l first k = tt
    node-short r o xs l first k = tt

  -- ---- ahead to one that is not
  -- a fix waits for the label where it may
  waits : (l : Label) → place_of old.labels l.0 ≡ None → (g : Fix) (gs : List Fix) → gs ≡ g ∷ [] → g.label ≡ record { 0 = l.0 } → may_wait g.kind old.size ≡ true → Each (Leads old) gs
  waits l free g gs is same may = subst (Each (Leads old)) (sym is) (subst (LeadsTo old.size g) (sym (ap (λ m. place_of old.labels m.0) same ∙ free)) may, tt)

  -- begun with the reach that the buffer's size asks for
  branch-ahead : (r s : Reach) → reach_ahead old.size ≡ s → (xs : List Operand) (items : Reach → List Item) (k : IsBranchTo xs items)
      → AreAppended a64_holes old new (items r) → AreItems (items r) → place_of old.labels k.label.0 ≡ None
      → IsLeastAhead s (λ t. Each (Leads old) (fixes_of place (items t))) r → IsLed (IsBranchIfAhead s)
  branch-ahead Short Short e xs items k appended fit free least =
      branch-led xs items k (IsBranchIfAhead Short) Short appended fit _ _ refl refl (k.holds, _, refl)
  branch-ahead Near Short e xs items k appended fit free least =
      branch-led xs items k (IsBranchIfAhead Short) Near appended fit _ _ refl refl (k.holds, _, refl)
  branch-ahead Far Short e xs items k appended fit free least =
      absurd (least.1 (waits k.label free (lead-fix Near (from xs items k) k.label) _ (branch-fix xs items k Near) refl
      (small-near old.size (size-small old.size e))))
  branch-ahead Near Near e xs items k appended fit free least =
      branch-led xs items k (IsBranchIfAhead Near) Near appended fit _ _ refl refl (k.holds, _, refl)
  branch-ahead Far Near e xs items k appended fit free least =
      absurd (least (waits k.label free (lead-fix Near (from xs items k) k.label) _ (branch-fix xs items k Near) refl (size-near old.size e)))
  branch-ahead Far Far e xs items k appended fit free least =
      branch-led xs items k (IsBranchIfAhead Far) Far appended fit _ _ refl refl (turned k.holds, _, refl)
  branch-ahead Short Near e xs items k appended fit free least = absurd least
  branch-ahead Short Far e xs items k appended fit free least = absurd least
  branch-ahead Near Far e xs items k appended fit free least = absurd least

  module _ (frame homes saved : ℕ) where
    abbrev IsKnownAhead : Reach → Op → List Operand → Type 0
    IsKnownAhead r o xs = selection.IsKnownAhead a64_holes IsItem old new (λ s. control_items s o xs frame homes saved place) r o xs

    abbrev size_reach : Reach
    size_reach = reach_ahead old.size

    ahead : (r : Reach) (o : Op) (xs : List Operand) → IsKnownAhead r o xs → (b : IsBranchTo xs (λ s. control_items s o xs frame homes saved place)) → IsLed (IsBranchIfAhead size_reach)
    ahead r o xs k b = branch-ahead r size_reach refl xs (λ s. control_items s o xs frame homes saved place) b k.appended k.fit (k.labels b.label b.names) k.least

    pub node-ahead : (r : Reach) (o : Op) (xs : List Operand) (l : Label) → slice_get xs 0 ≡ Some (operand.Label l) → IsKnownAhead r o xs → IsAhead a64_code size_reach o place part
    node-ahead r (op.Branch o last) xs l first k = ahead r (op.Branch o last) xs k (branch-leads o last xs k.admitted)
    node-ahead r (op.BranchSum o last) xs l first k = ahead r (op.BranchSum o last) xs k (sum-leads o last xs k.admitted)
    node-ahead r (op.Control control.Jmp last_operand.Immediate) xs l first k = tt
    node-ahead r (op.Control control.Call last_operand.Immediate) xs l first k = tt
    node-ahead r (op.Control control.Finish last_operand.Immediate) xs l first k = tt
    node-ahead r o xs l first k = tt
