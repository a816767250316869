-- Branches on conditions lead where they are to.
use Rattle.std.proofs.Common.{◌≡◌, ◌≢◌, ℕ, ◌^◌, ◌<◌, ◌≤◌, Bool, true, false, List, [], ◌∷◌, ◌++◌, Some, refl, sym, ap, ◌∙◌, subst, arith, length, length-append}
use Rattle.std.specs.Prelude.{◌==◌, ◌||◌, not, bit_and, if◌then◌else◌}
use Rattle.lg_base.specs.Layout.{most_code}
use Rattle.lg_base.specs.Words.{negated, differ, is_negative, carry_out, borrow_out}
use Rattle.lg_base.specs.declared.target.Target.TheVariants.{Aarch64}
use Rattle.lg_op.specs.declared.op.Condition.{Condition}
use Rattle.lg_op.specs.declared.op.Condition.TheVariants as condition
use Rattle.lg_op.specs.declared.operand.Operand.{Operand}
use Rattle.lg_op.specs.declared.operand.Operand.TheVariants as operand
use Rattle.lg_op.specs.declared.operand.Reg.{Reg}
use Rattle.lg_op.specs.Operators.{holds}
use Rattle.lg_a64.specs.Spelling.{IsInstr}
use Rattle.lg_a64.specs.declared.instruction.ImmOp.TheVariants.{Addsi, Subsi}
use Rattle.lg_a64.specs.declared.instruction.Instr.{Instr}
use Rattle.lg_a64.specs.declared.instruction.Instr.TheVariants as instr
use Rattle.lg_cpu.specs.A64Operators.{difference_flags}
use Rattle.lg_cpu.specs.A64Operators as a64
use Rattle.lg_cpu.specs.A64Step.{read}
use Rattle.lg_cpu.specs.Laws.{AreBytes}
use Rattle.lg_temp.specs.Abis.{register_of}
use Rattle.lg_sela_values.specs.Processor.A64Computers.{a64_scratch}
use Rattle.lg_sela_values.specs.Processor.A64Rows.{a64_rows, nzcv, link, zero_register}
use Rattle.lg_sela_values.specs.Processor.Computations.{all_compute, holding, computed_by, computed}
use Rattle.lg_sela_values.specs.Processor.Numbers.{number_code}
use Rattle.lg_sela_values.proofs.OfProcessor.HeldLemmas.{read-is}
use Rattle.lg_sela_values.proofs.OfProcessor.RegisterLemmas.{register-small, register-off-link}
use Rattle.lg_carry.specs.Nodes.Leaps.{BranchesLead, second_word}
use Rattle.lg_carry.specs.Values.Computers.{Held}
use Rattle.lg_carry.proofs.OfValues.ComputationLemmas.{computed-append}
use Rattle.lg_sela_values.specs.BinaryCode.{is_small}
use Rattle.lg_sela_values.proofs.FlagLemmas.{holds-lt, holds-ge, holds-gt, holds-le, holds-cc, holds-cs, holds-hi, holds-ls, holds-eq, holds-ne}
use Rattle.lg_sela_values.proofs.LoadCodeLemmas.{all-compute-append}
use Rattle.lg_sel.specs.declared.reach.Reach.{Reach}
use Rattle.lg_sela.specs.Control.Branches.{comparison, is_held, number_comparison, taken}
use Rattle.lg_sela.specs.Control.ControlItems.{second_register}
use Rattle.lg_sela.specs.Control.TwoWays.{second_code, before_branch, branch_code}
use Rattle.lg_sela.proofs.OfControl.TwoWayLemmas.{IsMade, some-is, second-made, two-ways}

-- the condition after the comparison of two words is that of the node, and no register changes
module _ (a b x y : ℕ) (al : a < 31) (bl : b < 31) (w : Held) (ea : w.registers a ≡ x) (eb : w.registers b ≡ y) (h : x < 2 ^ 64) (k : y < 2 ^ 64) where
  ra : read w.registers a ≡ x
  ra = read-is w.registers a al ∙ ea

  rb : read w.registers b ≡ y
  rb = read-is w.registers b bl ∙ eb

  differs : (o : Condition) → a64.condition_holds (taken o) (difference_flags (read w.registers a) (read w.registers b) 0) ≡ a64.condition_holds (taken o) (difference_flags x y 0)
  differs o = λ i. a64.condition_holds (taken o) (difference_flags (ra i) (rb i) 0)

  pub compared : (o : Condition) → a64.condition_holds (taken o) (computed_by (comparison o a b) w).flags ≡ holds o x y
  compared condition.Lt = differs condition.Lt ∙ holds-lt x y h k
  compared condition.LtU = differs condition.LtU ∙ holds-cc x y h k
  compared condition.Le = differs condition.Le ∙ holds-le x y h k
  compared condition.LeU = differs condition.LeU ∙ holds-ls x y h k
  compared condition.Ge = differs condition.Ge ∙ holds-ge x y h k
  compared condition.GeU = differs condition.GeU ∙ holds-cs x y h k
  compared condition.Gt = differs condition.Gt ∙ holds-gt x y h k
  compared condition.GtU = differs condition.GtU ∙ holds-hi x y h k
  compared condition.Eq = differs condition.Eq ∙ holds-eq x y h k
  compared condition.Ne = differs condition.Ne ∙ holds-ne x y h k
  compared condition.Ms = λ i. not (bit_and (ra i) (rb i) == 0)
  compared condition.Mc = λ i. bit_and (ra i) (rb i) == 0

kept : (o : Condition) (a b : ℕ) (w : Held) → (computed_by (comparison o a b) w).registers ≡ w.registers
kept condition.Ms a b w = refl
kept condition.Mc a b w = refl
kept o a b w = refl

compare-computes : (o : Condition) (a b : ℕ) → all_compute (comparison o a b ∷ []) ≡ true
compare-computes condition.Ms a b = refl
compare-computes condition.Mc a b = refl
compare-computes o a b = refl

pub second-below : (x : Operand) → second_register x < 31
second-below (operand.Reg b) = let l = register-small b in omega (arith, l)
second-below (operand.Number v) = omega arith
second-below x = omega arith

-- ---- a number that is held
-- the flags of a sum with the negative of a number are those of the difference
sum-same : (x v : ℕ) → x < 2 ^ 64 → v < 2 ^ 64 → a64.sum_of x (negated v) 0 ≡ a64.difference_of x v 0
sum-same x v h k = omega (arith, h, k)

carry-same : (x v : ℕ) → v < 2 ^ 64 → 0 < negated v → carry_out x (negated v) 0 ≡ not (borrow_out x v 0)
carry-same x v k some = grind (arith, k, some)

leaves-same : (p s : Bool) → (if differ p false then false else differ p s) ≡ (if differ p true then differ p s else false)
leaves-same true s = refl
leaves-same false s = refl

sign-of : (v : ℕ) → v < 4096 → is_negative v ≡ false
sign-of v h = grind (arith, h)

sign-after : (v : ℕ) → v < 2 ^ 64 → is_small (negated v) ≡ true → is_small v ≡ false → is_negative v ≡ true
sign-after v k near far = grind (arith, k, near, far)

pub held-flags : (x v : ℕ) → x < 2 ^ 64 → v < 2 ^ 64 → is_small v ≡ false → is_small (negated v) ≡ true → a64.sum_flags x (negated v) 0 ≡ difference_flags x v 0
held-flags x v h k far near =
    let little : negated v < 4096 = grind (arith, near) in
    let some : 0 < negated v = grind (arith, k, far) in
    let value = sum-same x v h k in
    let carry = carry-same x v k some in
    let leaves : a64.sum_leaves x (negated v) (a64.sum_of x (negated v) 0) ≡ a64.difference_leaves x v (a64.difference_of x v 0) =
    ap (λ n. if differ (is_negative x) n then false else differ (is_negative x) (is_negative (a64.sum_of x (negated v) 0))) (sign-of (negated v) little)
    ∙ leaves-same (is_negative x) (is_negative (a64.sum_of x (negated v) 0))
    ∙ ap (λ n. if differ (is_negative x) n then differ (is_negative x) (is_negative (a64.sum_of x (negated v) 0)) else false) (sym (sign-after v k near far))
    ∙ ap (λ s. a64.difference_leaves x v s) value in
    λ i. a64.result_flags (value i) (carry i) (leaves i)

module _ (a x v : ℕ) (w : Held) (ea : w.registers a ≡ x) (h : x < 2 ^ 64) (k : v < 2 ^ 64) where
  flags-held : (b : Bool) → is_small v ≡ b → (b || is_small (negated v)) ≡ true
      → (computed_by (if b then instr.Imm Subsi zero_register a v false else instr.Imm Addsi zero_register a (negated v) false) w).flags ≡ difference_flags x v 0
  flags-held true near held = ap (λ z. difference_flags z v 0) ea
  flags-held false far held = ap (λ z. a64.sum_flags z (negated v) 0) ea ∙ held-flags x v h k far held

  held-compared : (o : Condition) → is_held o v ≡ true → a64.condition_holds (taken o) (computed_by (number_comparison a v) w).flags ≡ holds o x v
  held-compared condition.Lt e = ap (a64.condition_holds (taken condition.Lt)) (flags-held (is_small v) refl e) ∙ holds-lt x v h k
  held-compared condition.LtU e = ap (a64.condition_holds (taken condition.LtU)) (flags-held (is_small v) refl e) ∙ holds-cc x v h k
  held-compared condition.Le e = ap (a64.condition_holds (taken condition.Le)) (flags-held (is_small v) refl e) ∙ holds-le x v h k
  held-compared condition.LeU e = ap (a64.condition_holds (taken condition.LeU)) (flags-held (is_small v) refl e) ∙ holds-ls x v h k
  held-compared condition.Ge e = ap (a64.condition_holds (taken condition.Ge)) (flags-held (is_small v) refl e) ∙ holds-ge x v h k
  held-compared condition.GeU e = ap (a64.condition_holds (taken condition.GeU)) (flags-held (is_small v) refl e) ∙ holds-cs x v h k
  held-compared condition.Gt e = ap (a64.condition_holds (taken condition.Gt)) (flags-held (is_small v) refl e) ∙ holds-gt x v h k
  held-compared condition.GtU e = ap (a64.condition_holds (taken condition.GtU)) (flags-held (is_small v) refl e) ∙ holds-hi x v h k
  held-compared condition.Eq e = ap (a64.condition_holds (taken condition.Eq)) (flags-held (is_small v) refl e) ∙ holds-eq x v h k
  held-compared condition.Ne e = ap (a64.condition_holds (taken condition.Ne)) (flags-held (is_small v) refl e) ∙ holds-ne x v h k
  held-compared condition.Ms e = cc
  held-compared condition.Mc e = cc

held-kept : (a v : ℕ) (w : Held) → (computed_by (number_comparison a v) w).registers ≡ w.registers
held-kept a v w = by (is_small v)
  where
    by : (b : Bool) → (computed_by (if b then instr.Imm Subsi zero_register a v false else instr.Imm Addsi zero_register a (negated v) false) w).registers ≡ w.registers
    by true = refl
    by false = refl

held-computes : (a v : ℕ) → all_compute (number_comparison a v ∷ []) ≡ true
held-computes a v = by (is_small v)
  where
    by : (b : Bool) → all_compute ((if b then instr.Imm Subsi zero_register a v false else instr.Imm Addsi zero_register a (negated v) false) ∷ []) ≡ true
    by true = refl
    by false = refl

-- ---- what is before the branch
-- the flags are those of the comparison, and nothing but the link changes
record Compares (o : Condition) (front : List Instr) (x y : ℕ) (w : Held) : Type 0 where
  computes : all_compute front ≡ true
  goes : a64.condition_holds (taken o) (computed front w).flags ≡ holds o x y
  others : (z : ℕ) → z ≢ link → (computed front w).registers z ≡ w.registers z
  few : length front ≤ 5

module _ (o : Condition) (a : Reg) (x : ℕ) (w : Held) (ea : w.registers (register_of Aarch64 a) ≡ x) (h : x < 2 ^ 64) where
  abbrev first : ℕ
  first = register_of Aarch64 a

  loaded : (b : Operand) (y : ℕ) → second_word Aarch64 w.registers b ≡ Some y → y < 2 ^ 64 → Compares o (second_code b ++ (comparison o first (second_register b) ∷ [])) x y w
  loaded b y eb near =
      let rb : ℕ = second_register b in
      let made : IsMade b y w = second-made b y w eb near in
      let w1 : Held = computed (second_code b) w in
      let reads : w1.registers first ≡ x = made.others first (register-off-link a) ∙ ea in
      let all = computed-append computed_by (second_code b) (comparison o first rb ∷ []) w in
      let la = register-small a in
      record {
        computes = all-compute-append (second_code b) (comparison o first rb ∷ []) made.computes (compare-computes o first rb);
        goes = ap (λ u. a64.condition_holds (taken o) u.flags) all ∙ compared first rb x y (omega (arith, la)) (second-below b) w1 reads made.value h near o;
        others = λ z off. ap (λ u. u.registers z) all ∙ ap (λ g. g z) (kept o first rb w1) ∙ made.others z off;
        few = let l = length-append (second_code b) (comparison o first rb ∷ []) in let m = made.few in omega (arith, l, m);
      }

  numbered : (v y : ℕ) → second_word Aarch64 w.registers (operand.Number v) ≡ Some y → y < 2 ^ 64 → Compares o (before_branch o a (operand.Number v)) x y w
  numbered v y eb near = by (is_held o v) refl
    where
      same : v ≡ y
      same = some-is v y eb

      by : (b : Bool) → is_held o v ≡ b → Compares o ((if b then [] else number_code link v) ++ ((if b then number_comparison first v else comparison o first link) ∷ [])) x y w
      by true e = record {
        computes = held-computes first v;
        goes = held-compared first x v w ea h (subst (λ z. z < 2 ^ 64) (sym same) near) o e ∙ ap (holds o x) same;
        others = λ z off. ap (λ g. g z) (held-kept first v w);
        few = omega arith;
      }
      by false e = loaded (operand.Number v) y eb near

  compares : (b : Operand) (y : ℕ) → second_word Aarch64 w.registers b ≡ Some y → y < 2 ^ 64 → Compares o (before_branch o a b) x y w
  compares (operand.Number v) y eb near = numbered v y eb near
  compares (operand.Reg r) y eb near = loaded (operand.Reg r) y eb near
  compares (operand.Host name) y eb near = loaded (operand.Host name) y eb near
  compares (operand.Label l) y eb near = loaded (operand.Label l) y eb near
  compares (operand.Slot k) y eb near = loaded (operand.Slot k) y eb near

pub branches-lead : (r : Reach) (code : List ℕ) (trash : ℕ) → length code ≤ most_code → AreBytes code → trash < 2 ^ 64
    → BranchesLead (a64_rows code trash) a64_scratch IsInstr (branch_code r)
branches-lead r code trash small bytes word frame o a b x y from to q f k there next runs at ea eb near =
    let w : Held = holding q.state.registers (nzcv q.state.flags) in
    let c = compares o a x w ea (subst (λ z. z < 2 ^ 64) ea (f.seen.words (register_of Aarch64 a))) b y eb near in
    let m = c.few in
    two-ways r code trash small bytes word (before_branch o a b) (taken o) from to q k c.computes (omega (arith, m)) runs at (holds o x y) there next
    c.goes q.state.registers c.others
