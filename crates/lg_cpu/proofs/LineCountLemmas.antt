-- Steps counted by lines, one more and one run after another.
use Rattle.std.proofs.Common.{◌≡◌, ℕ, zero, suc, ◌+◌, ◌-◌, ◌^◌, ◌<◌, ◌≤◌, Bool, true, false, List, [], ◌∷◌, Option, length, inl, inr, refl, sym, ap, ap₂, ◌∙◌, subst, add-one, arith}
use Rattle.std.specs.Prelude.{◌==◌, if◌then◌else◌, nat_lt, slice_get, slice_index_or, unwrap_or}
use Rattle.std.proofs.lemmas.Bool.{cases_lt}
use Rattle.std.proofs.lemmas.Bool.Decides.{nat_tests}
use Rattle.lg_base.specs.Runs.{iter}
use Rattle.lg_cpu.specs.Answers.{counted, is_counted}
use Rattle.lg_cpu.specs.LineCounts.{Adds, AddsSteps, MayAdd, begun, line_by, steps_at, table_line}
use Rattle.lg_cpu.specs.Machines.{Inner, Shown, run_of}
use Rattle.lg_cpu.specs.Series.{IsAt, code_run, going_on, run_from}
use Rattle.lg_cpu.specs.States.{CpuState}
use Rattle.lg_cpu.specs.Steps.{Run}
use Rattle.lg_cpu.specs.Targets.{machine_of}
use Rattle.lg_cpu.specs.declared.answer.CpuStep.{CpuStep}
use Rattle.lg_cpu.proofs.SeriesLemmas.{iter_plus}

pub line_zero : (line_of : ℕ → Option ℕ) (run : ℕ → Run CpuState) (before : ℕ) → line_by line_of run before 0 ≡ before
unfolding line_by
line_zero line_of run before = refl

pub line_more : (line_of : ℕ → Option ℕ) (run : ℕ → Run CpuState) (before n : ℕ)
    → line_by line_of run before (suc n) ≡ unwrap_or (line_of (run n).state.pc) (line_by line_of run before n)
unfolding line_by
line_more line_of run before n = refl

pub steps_zero : (line_of : ℕ → Option ℕ) (run : ℕ → Run CpuState) (before line : ℕ) → steps_at line_of run before line 0 ≡ 0
unfolding steps_at
steps_zero line_of run before line = refl

pub steps_more : (line_of : ℕ → Option ℕ) (run : ℕ → Run CpuState) (before line n : ℕ)
    → steps_at line_of run before line (suc n) ≡ steps_at line_of run before line n + (if line_by line_of run before (suc n) == line then 1 else 0)
unfolding steps_at
steps_more line_of run before line n = refl

one_few : (b : Bool) → (if b then 1 else 0) ≤ 1
one_few true = omega arith
one_few false = omega arith

pub steps_few : (line_of : ℕ → Option ℕ) (run : ℕ → Run CpuState) (before line n : ℕ) → steps_at line_of run before line n ≤ n
unfolding steps_at
steps_few line_of run before line zero = omega arith
steps_few line_of run before line (suc n) =
    let rest = steps_few line_of run before line n in let one = one_few (line_by line_of run before (suc n) == line) in omega (arith, rest, one)

-- a run that goes on from where another has come
module _ (line_of : ℕ → Option ℕ) (run later : ℕ → Run CpuState) (before n : ℕ) (same : (k : ℕ) → later k ≡ run (n + k)) where
  pub line_then : (k : ℕ) → line_by line_of later (line_by line_of run before n) k ≡ line_by line_of run before (n + k)
  unfolding line_by
  line_then zero = let none : n ≡ n + 0 = omega arith in ap (line_by line_of run before) none
  line_then (suc k) =
      let more : suc (n + k) ≡ n + suc k = omega arith in
      ap (λ (r : Run CpuState). unwrap_or (line_of r.state.pc) (line_by line_of later (line_by line_of run before n) k)) (same k)
      ∙ ap (unwrap_or (line_of (run (n + k)).state.pc)) (line_then k) ∙ ap (line_by line_of run before) more

  pub steps_then : (line k : ℕ)
      → steps_at line_of run before line n + steps_at line_of later (line_by line_of run before n) line k ≡ steps_at line_of run before line (n + k)
  unfolding steps_at
  steps_then line zero = let none : n ≡ n + 0 = omega arith in let all = ap (steps_at line_of run before line) none in omega (arith, all)
  steps_then line (suc k) =
      let more : suc (n + k) ≡ n + suc k = omega arith in
      let rest = steps_then line k in
      let at = ap {B = ℕ} (λ l. if l == line then 1 else 0) (line_then (suc k) ∙ ap (line_by line_of run before) (sym more)) in
      let all = ap (steps_at line_of run before line) more in
      omega (arith, rest, at, all)

-- ---- numbers of lines
pub adds_none : (lines : List ℕ) (run : ℕ → Run CpuState) (before : ℕ) (old : List ℕ) → AddsSteps lines run before before 0 old old
adds_none lines run before old = record {
  long = refl;
  last = λ some. sym (line_zero (table_line lines) run before);
  each = λ some line. let none = steps_zero (table_line lines) run before line in omega (arith, none);
}

-- one more step
pub adds_more : (lines : List ℕ) (run : ℕ → Run CpuState) (before line after n pc : ℕ) (old mid new : List ℕ) → AddsSteps lines run before line n old mid → pc ≡ (run n).state.pc
    → length new ≡ length mid → (0 < length mid → after ≡ unwrap_or (table_line lines pc) line)
    → (0 < length mid → (l : ℕ) → slice_index_or new l 0 ≡ slice_index_or mid l 0 + (if after == l then 1 else 0)) → AddsSteps lines run before after (n + 1) old new
adds_more lines run before line after n pc old mid new h is long found each = record {
  long = long ∙ h.long;
  last = here;
  each = λ some l.
      let one = ap {B = ℕ} (λ x. if x == l then 1 else 0) (here some) in
      let before-it = h.each some l in
      let it = each (subst (λ k. 0 < k) (sym h.long) some) l in
      let all = ap (steps_at (table_line lines) run before l) (add-one n) ∙ steps_more (table_line lines) run before l n in
      let same = ap {B = ℕ} (λ x. if line_by (table_line lines) run before x == l then 1 else 0) (add-one n) in
      omega (arith, one, before-it, it, all, same);
}
  where
    here : 0 < length old → after ≡ line_by (table_line lines) run before (n + 1)
    here some = found (subst (λ k. 0 < k) (sym h.long) some) ∙ ap (λ x. unwrap_or (table_line lines x) line) is ∙ ap (unwrap_or (table_line lines (run n).state.pc)) (h.last some)
        ∙ sym (line_more (table_line lines) run before n) ∙ sym (ap (line_by (table_line lines) run before) (add-one n))

-- the steps of a run that goes on
pub adds_then : (lines : List ℕ) (run later : ℕ → Run CpuState) (before mid after n k : ℕ) (old between new : List ℕ) → AddsSteps lines run before mid n old between
    → ((j : ℕ) → later j ≡ run (n + j)) → AddsSteps lines later mid after k between new → AddsSteps lines run before after (n + k) old new
adds_then lines run later before mid after n k old between new h same g = record {
  long = g.long ∙ h.long;
  last = λ some. g.last (there some) ∙ ap (λ x. line_by (table_line lines) later x k) (h.last some) ∙ line_then (table_line lines) run later before n same k;
  each = λ some line.
      let first = h.each some line in
      let second = g.each (there some) line in
      let all = steps_then (table_line lines) run later before n same line k in
      let start = ap (λ x. steps_at (table_line lines) later x line k) (h.last some) in
      omega (arith, first, second, all, start);
}
  where
    there : 0 < length old → 0 < length between
    there some = subst (λ x. 0 < x) (sym h.long) some

-- the last step is taken back
pub adds_back : (lines : List ℕ) (run : ℕ → Run CpuState) (after n : ℕ) (old mid new : List ℕ) → AddsSteps lines run 0 after (n + 1) old mid → length new ≡ length mid
    → (0 < length mid → (l : ℕ) → slice_index_or mid l 0 ≡ slice_index_or new l 0 + (if after == l then 1 else 0)) → Adds lines run n old new
adds_back lines run after n old mid new h long each = record {
  long = long ∙ h.long;
  each = λ some l.
      let one = ap {B = ℕ} (λ x. if x == l then 1 else 0) (h.last some) in
      let sum = h.each some l in
      let it = each (subst (λ k. 0 < k) (sym h.long) some) l in
      let all = ap (steps_at (table_line lines) run 0 l) (add-one n) ∙ steps_more (table_line lines) run 0 l n in
      let same = ap {B = ℕ} (λ x. if line_by (table_line lines) run 0 x == l then 1 else 0) (add-one n) in
      omega (arith, one, sum, it, all, same);
}

-- or stays
pub adds_all : (lines : List ℕ) (run : ℕ → Run CpuState) (after n k : ℕ) (old mid new : List ℕ) → AddsSteps lines run 0 after n old mid → n ≡ k → new ≡ mid → Adds lines run k old new
adds_all lines run after n k old mid new h count same = record {
  long = ap length same ∙ h.long;
  each = λ some l. ap (λ x. slice_index_or x l 0) same ∙ h.each some l ∙ ap (λ x. slice_index_or old l 0 + steps_at (table_line lines) run 0 l x) count;
}

-- the last step counts once at its line
pub last_counts : (lines : List ℕ) (run : ℕ → Run CpuState) (before after n : ℕ) (old new : List ℕ) → AddsSteps lines run before after (n + 1) old new → 0 < length old
    → 0 < slice_index_or new after 0
last_counts lines run before after n old new h some =
    let sum = h.each some after in
    let all = ap (steps_at (table_line lines) run before after) (add-one n) ∙ steps_more (table_line lines) run before after n in
    let here : (line_by (table_line lines) run before (suc n) == after) ≡ true =
    let is = h.last some ∙ ap (line_by (table_line lines) run before) (add-one n) in grind (arith, nat_tests, is) in
    let one = ap {B = ℕ} (λ b. if b then 1 else 0) here in
    omega (arith, sum, all, one)

-- steps of which fewer than the most went were begun one more
pub adds_begun : (lines : List ℕ) (run : ℕ → Run CpuState) (before line after n most pc : ℕ) (old mid new : List ℕ) → n < most → AddsSteps lines run before line n old mid → pc ≡ (run n).state.pc
    → length new ≡ length mid → (0 < length mid → after ≡ unwrap_or (table_line lines pc) line)
    → (0 < length mid → (l : ℕ) → slice_index_or new l 0 ≡ slice_index_or mid l 0 + (if after == l then 1 else 0)) → AddsSteps lines run before after (begun n most) old new
adds_begun lines run before line after n most pc old mid new less h is long found each =
    let test : nat_lt n most ≡ true = grind (arith, nat_tests, less) in
    subst (λ b. AddsSteps lines run before after (if b then n + 1 else n) old new) (sym test) (adds_more lines run before line after n pc old mid new h is long found each)

-- and of which all went, so many
pub adds_whole : (lines : List ℕ) (run : ℕ → Run CpuState) (before line n most : ℕ) (old new : List ℕ) → n ≡ most → AddsSteps lines run before line n old new
    → AddsSteps lines run before line (begun most most) old new
adds_whole lines run before line n most old new is h =
    let test : nat_lt most most ≡ false = grind (arith, nat_tests) in
    subst (λ b. AddsSteps lines run before line (if b then most + 1 else most) old new) (sym test) (subst (λ k. AddsSteps lines run before line k old new) is h)

-- no number is at its end after some of the steps that may be added
pub room_left : (lines : List ℕ) (run : ℕ → Run CpuState) (before after n most : ℕ) (old new : List ℕ) → n ≤ most → AddsSteps lines run before after n old new → 0 < length old
    → (line : ℕ) → slice_index_or new line 0 + (most - n) ≤ slice_index_or old line 0 + most
room_left lines run before after n most old new within h some line =
    let sum = h.each some line in
    let few = steps_few (table_line lines) run before line n in
    omega (arith, sum, few, within)

empty_at : (l : List ℕ) → (0 < length l → ⊥) → (i : ℕ) → slice_index_or l i 0 ≡ 0
empty_at [] none i = refl
empty_at (x ∷ l) none i = absurd (none (omega arith))

-- so the rest of them may be added
pub may_still : (lines : List ℕ) (run : ℕ → Run CpuState) (before after n most : ℕ) (old new : List ℕ) → n ≤ most → MayAdd lines most old → AddsSteps lines run before after n old new
    → MayAdd lines (most - n) new
may_still lines run before after n most old new within may h = record {
  within = λ place line is. subst (λ k. line < k) (sym h.long) (may.within place line is);
  room = λ line. elim (cases_lt 0 (length old)) [
    | inl some ↦
        let left = room_left lines run before after n most old new within h some line in
        let room = may.room line in
        omega (arith, left, room)
    | inr other ↦
        let none : 0 < length new → ⊥ = λ some. let long = h.long in absurd (omega (arith, some, long, other)) in
        let here = empty_at new none line in
        let room = may.room line in
        omega (arith, here, room)
  ];
}

-- a run goes on from a processor as its code does
pub run_on : (start : Shown) (p : Inner) (k n : ℕ) (out : List ℕ) → IsAt start (going_on p k) n out → (j : ℕ) → code_run p out j ≡ run_from start (n + j)
run_on start p k n out at j =
    let step = (machine_of start.target start.code start.trash).step in
    ap (λ t. iter (machine_of t p.fixed.code p.fixed.trash).step j (run_of (going_on p 0) out)) at.target
    ∙ ap₂ (λ code trash. iter (machine_of start.target code trash).step j (run_of (going_on p 0) out)) at.code at.trash
    ∙ ap (iter step j) at.stands ∙ sym (iter_plus step n j (run_of start []))

-- the last step is taken back where it did not go and did not end the run
pub adds_stopped : (lines : List ℕ) (run : ℕ → Run CpuState) (after n steps k : ℕ) (answer : CpuStep) (old mid new : List ℕ) → AddsSteps lines run 0 after (n + 1) old mid
    → length new ≡ length mid → (is_counted answer ≡ true → new ≡ mid)
    → (is_counted answer ≡ false → 0 < length mid → (l : ℕ) → slice_index_or mid l 0 ≡ slice_index_or new l 0 + (if after == l then 1 else 0))
    → k ≡ counted answer (steps + n) → Adds lines run (k - steps) old new
adds_stopped lines run after n steps k answer old mid new h long stays back is = by (is_counted answer) refl
  where
    by : (b : Bool) → is_counted answer ≡ b → Adds lines run (k - steps) old new
    by true counts =
        let here : k ≡ steps + n + 1 = is ∙ ap (λ b. if b then steps + n + 1 else steps + n) counts in
        let all : n + 1 ≡ k - steps = omega (arith, here) in
        adds_all lines run after (n + 1) (k - steps) old mid new h all (stays counts)
    by false counts =
        let here : k ≡ steps + n = is ∙ ap (λ b. if b then steps + n + 1 else steps + n) counts in
        let all : n ≡ k - steps = omega (arith, here) in
        subst (λ j. Adds lines run j old new) all (adds_back lines run after n old mid new h long (back counts))

-- the steps that were begun of those that a run still takes
pub adds_on : (lines : List ℕ) (start : Shown) (p : Inner) (k : ℕ) (out : List ℕ) (line after n m most : ℕ) (old between new : List ℕ) → IsAt start (going_on p k) n out
    → AddsSteps lines (run_from start) 0 line n old between → AddsSteps lines (code_run p out) line after (begun m most) between new → m < most
    → AddsSteps lines (run_from start) 0 after (n + m + 1) old new
adds_on lines start p k out line after n m most old between new at h g less =
    let test : nat_lt m most ≡ true = grind (arith, nat_tests, less) in
    let count : n + (if nat_lt m most then m + 1 else m) ≡ n + m + 1 = ap (λ b. n + (if b then m + 1 else m)) test ∙ (let sum : n + (m + 1) ≡ n + m + 1 = omega arith in sum) in
    subst (λ j. AddsSteps lines (run_from start) 0 after j old new) count
    (adds_then lines (run_from start) (code_run p out) 0 line after n (begun m most) old between new h (run_on start p k n out at) g)

pub adds_whole_on : (lines : List ℕ) (start : Shown) (p : Inner) (k : ℕ) (out : List ℕ) (line after n m most : ℕ) (old between new : List ℕ) → IsAt start (going_on p k) n out
    → AddsSteps lines (run_from start) 0 line n old between → AddsSteps lines (code_run p out) line after (begun m most) between new → m ≡ most
    → AddsSteps lines (run_from start) 0 after (n + m) old new
adds_whole_on lines start p k out line after n m most old between new at h g all =
    let test : nat_lt m most ≡ false = grind (arith, nat_tests, all) in
    let count : n + (if nat_lt m most then m + 1 else m) ≡ n + m = ap (λ b. n + (if b then m + 1 else m)) test in
    subst (λ j. AddsSteps lines (run_from start) 0 after j old new) count
    (adds_then lines (run_from start) (code_run p out) 0 line after n (begun m most) old between new h (run_on start p k n out at) g)

-- nothing is added to no numbers
pub none_may : (most : ℕ) → most < 2 ^ 64 → MayAdd [] most []
none_may most few = record { within = λ place line is. cc; room = λ line. omega (arith, few) }

-- or by no steps
pub adds_over : (lines : List ℕ) (run : ℕ → Run CpuState) (k : ℕ) (old : List ℕ) → Adds lines run (k - k) old old
adds_over lines run k old = record {
  long = refl;
  each = λ some line.
      let none = steps_zero (table_line lines) run 0 line in
      let zero-steps : k - k ≡ 0 = omega arith in
      let here = ap (steps_at (table_line lines) run 0 line) zero-steps in
      omega (arith, none, here);
}
