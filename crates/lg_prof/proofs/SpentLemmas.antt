-- One more step of a processor, by its outcome.
use Rattle.std.proofs.Common.{◌≡◌, ℕ, zero, suc, ◌-◌, ◌<◌, Bool, true, false, List, [], ◌∷◌, Option, Some, None, inl, inr, refl, sym, ap, ap₂, ◌∙◌, subst, add-one, arith}
use Rattle.std.specs.Prelude.{not, ◌&&◌, ◌==◌, unwrap_or, if◌then◌else◌, nat_le, drop}
use Rattle.std.proofs.lemmas.Bool.{cases_lt}
use Rattle.std.proofs.lemmas.Option.{same_Some}
use Rattle.lg_base.specs.Layout.{code_base}
use Rattle.lg_cpu.specs.Answers.{answer_of, counted, progress_of}
use Rattle.lg_cpu.specs.LineCounts.{line_by, steps_at}
use Rattle.lg_cpu.specs.Machines.{Shown, run_of}
use Rattle.lg_cpu.specs.Series.{Advances, EndsWith, IsAt, effect_at, run_from}
use Rattle.lg_cpu.specs.States.{CpuState}
use Rattle.lg_cpu.specs.Steps.{Progress, Run, Goes, EndedWith, Faulted, after, on_going, stepped}
use Rattle.lg_cpu.specs.Targets.{effect_of}
use Rattle.lg_cpu.specs.declared.answer.CpuStep.{CpuStep}
use Rattle.lg_cpu.specs.declared.answer.CpuStep.TheVariants as cpu
use Rattle.lg_cpu.proofs.FollowLemmas.{iter_more}
use Rattle.lg_cpu.proofs.LineCountLemmas.{steps_more, steps_zero}
use Rattle.lg_cpu.proofs.SeriesLemmas.{next}
use Rattle.lg_prof.proofs.SumLemmas.{counted_more, counted_zero}
use Rattle.lg_op.specs.declared.node.Node.{Node}
use Rattle.lg_prof.specs.Tallies.{AreBelow}
use Rattle.lg_prof.specs.Spent.{code_line, has_run, is_fault, is_going, lies_first, line_after, line_here, spent}

pub line_below : (found : Option ℕ) (before top : ℕ) → ((line : ℕ) → found ≡ Some line → line < top) → before < top → unwrap_or found before < top
line_below None before top lines below = below
line_below (Some line) before top lines below = lines line refl

module _ (start here : Shown) (n : ℕ) (out : List ℕ) (at : IsAt start here n out) (going : here.answer ≡ cpu.Went) where
  made_by : (p : Progress) → (effect_at here).progress ≡ p → has_run (run_from start) n ≡ not (is_fault p)
  made_by p is =
      let run = run_from start in
      let now : (run n).progress ≡ Goes = ap (λ r. r.progress) (sym at.stands) ∙ ap progress_of going in
      ap (λ q. is_going q && not (is_fault (run (suc n)).progress)) now
      ∙ ap (λ j. not (is_fault (run j).progress)) (sym (add-one n))
      ∙ ap (λ r. not (is_fault r.progress)) (next start here n out at going)
      ∙ ap (λ q. not (is_fault q)) is

  by_progress : (p : Progress) → (effect_at here).progress ≡ p → (answer_of p ≡ cpu.Went) → has_run (run_from start) n ≡ true
  by_progress Goes is e = made_by Goes is
  by_progress (EndedWith status) is e = made_by (EndedWith status) is
  by_progress (Faulted kind) is e = cc

  pub went : cpu.Went ≡ answer_of (effect_at here).progress → has_run (run_from start) n ≡ true
  went e = by_progress (effect_at here).progress refl (sym e)

  by_end : (status : ℕ) (p : Progress) → (effect_at here).progress ≡ p → (answer_of p ≡ cpu.Ended status) → has_run (run_from start) n ≡ true
  by_end status Goes is e = made_by Goes is
  by_end status (EndedWith other) is e = made_by (EndedWith other) is
  by_end status (Faulted kind) is e = cc

  pub ended : (status : ℕ) → cpu.Ended status ≡ answer_of (effect_at here).progress → has_run (run_from start) n ≡ true
  ended status e = by_end status (effect_at here).progress refl (sym e)

-- ---- lines of code are lines of its nodes
pub line_of_node : (nodes : List Node) (places : List ℕ) (place line top : ℕ) → AreBelow nodes top → line_here nodes places place ≡ Some line → line < top
line_of_node [] places place line top below e = cc
line_of_node (n ∷ nodes) places place line top below e = at (lies_first places place) e (line_of_node nodes (drop 1 places) place line top (λ i m here. below (suc i) m here))
  where
    at : (b : Bool) → (if b then Some n.line else line_here nodes (drop 1 places) place) ≡ Some line → (line_here nodes (drop 1 places) place ≡ Some line → line < top) → line < top
    at true e rest = let first = below 0 n refl in let same = same_Some n.line line e in omega (arith, first, same)
    at false e rest = rest e

code_below : (nodes : List Node) (places : List ℕ) (pc line top : ℕ) → AreBelow nodes top → code_line nodes places pc ≡ Some line → line < top
code_below nodes places pc line top below e = at (nat_le code_base pc) e
  where
    at : (b : Bool) → (if b then line_here nodes places (pc - code_base) else None) ≡ Some line → line < top
    at true e = line_of_node nodes places (pc - code_base) line top below e
    at false e = cc

pub after_below : (nodes : List Node) (places : List ℕ) (run : ℕ → Run CpuState) (top : ℕ) → 0 < top → AreBelow nodes top → (n : ℕ) → line_after (code_line nodes places) run n < top
unfolding line_by
after_below nodes places run top some below zero = some
after_below nodes places run top some below (suc n) =
    line_below (code_line nodes places (run n).state.pc) (line_after (code_line nodes places) run n) top
    (λ line e. code_below nodes places (run n).state.pc line top below e) (after_below nodes places run top some below n)

-- ---- lines by two tables that agree
pub spent_same : (f g : ℕ → Option ℕ) (run : ℕ → Run CpuState) → ((pc : ℕ) → f pc ≡ g pc) → (line n : ℕ) → spent f run line n ≡ spent g run line n
spent_same f g run same line n = ap (λ (h : ℕ → Option ℕ). spent h run line n) (λ i pc. same pc i)

-- ---- the steps of a run that has taken so many
going_before : (start : Shown) (n : ℕ) → (run_from start (suc n)).progress ≡ Goes → (run_from start n).progress ≡ Goes
going_before start n goes =
    let step = stepped (effect_of start.target start.code start.trash) in
    let r = run_from start n in
    by r.progress refl (ap (λ (x : Run CpuState). x.progress) (sym (iter_more step n (run_of start []))) ∙ ap (λ k. (run_from start k).progress) (add-one n) ∙ goes)
  where
    by : (p : Progress) → (run_from start n).progress ≡ p → (on_going (run_from start n).progress (after (run_from start n) (effect_of start.target start.code start.trash (run_from start n).state)) (run_from start n)).progress ≡ Goes
        → (run_from start n).progress ≡ Goes
    by Goes is e = is
    by (EndedWith status) is e = subst (λ p. (on_going p (after (run_from start n) (effect_of start.target start.code start.trash (run_from start n).state)) (run_from start n)).progress ≡ Goes) is e
    by (Faulted kind) is e = subst (λ p. (on_going p (after (run_from start n) (effect_of start.target start.code start.trash (run_from start n).state)) (run_from start n)).progress ≡ Goes) is e

went_before : (start : Shown) (n : ℕ) → (run_from start n).progress ≡ Goes → (k : ℕ) → (run_from start (n - k)).progress ≡ Goes
went_before start n goes zero = subst (λ j. (run_from start j).progress ≡ Goes) (let none : n ≡ n - 0 = omega arith in none) goes
went_before start n goes (suc k) = elim (cases_lt k n) [
  | inl less ↦ going_before start (n - suc k) (subst (λ j. (run_from start j).progress ≡ Goes) (let next : n - k ≡ suc (n - suc k) = omega (arith, less) in next) (went_before start n goes k))
  | inr other ↦ subst (λ j. (run_from start j).progress ≡ Goes) (let same : n - k ≡ n - suc k = omega (arith, other) in same) (went_before start n goes k)
]

-- steps after which it goes on went
all_ran : (start : Shown) (n : ℕ) → (run_from start n).progress ≡ Goes → (k : ℕ) → k < n → has_run (run_from start) k ≡ true
all_ran start n goes k less =
    let here : (run_from start k).progress ≡ Goes = subst (λ j. (run_from start j).progress ≡ Goes) (let same : n - (n - k) ≡ k = omega (arith, less) in same) (went_before start n goes (n - k)) in
    let next : (run_from start (suc k)).progress ≡ Goes = subst (λ j. (run_from start j).progress ≡ Goes) (let same : n - (n - suc k) ≡ suc k = omega (arith, less) in same) (went_before start n goes (n - suc k)) in
    ap₂ (λ a b. is_going a && not (is_fault b)) here next

-- where all steps went or ended they are those that are counted
pub spent_all : (line_of : ℕ → Option ℕ) (run : ℕ → Run CpuState) (line n : ℕ) → ((k : ℕ) → k < n → has_run run k ≡ true) → steps_at line_of run 0 line n ≡ spent line_of run line n
spent_all line_of run line zero made = steps_zero line_of run 0 line ∙ sym (counted_zero (has_run run) (λ k. line_after line_of run (suc k)) line)
spent_all line_of run line (suc n) made =
    let rest = spent_all line_of run line n (λ k less. made k (omega (arith, less))) in
    let here = made n (omega arith) in
    let one = ap {B = ℕ} (λ b. if b && line_after line_of run (suc n) == line then 1 else 0) here in
    let left = steps_more line_of run 0 line n in
    let right = counted_more (has_run run) (λ k. line_after line_of run (suc k)) line n in
    omega (arith, rest, one, left, right)

-- each step that is counted went or ended
pub counted_ran : (start new : Shown) (most : ℕ) (taken taken' : Option (List ℕ)) (count count' : ℕ) (answer : CpuStep) → start.steps ≡ 0
    → Advances start new most taken taken' count count' answer → (k : ℕ) → k < new.steps → has_run (run_from start) k ≡ true
counted_ran start new most taken taken' count count' answer first h = by answer h.ends
  where
    goes : (run_from start h.went).progress ≡ Goes
    goes = ap (λ (r : Run CpuState). r.progress) (sym h.at.stands) ∙ ap progress_of h.going

    before : (k : ℕ) → k < h.went → has_run (run_from start) k ≡ true
    before = all_ran start h.went goes

    here_steps : h.here.steps ≡ h.went
    here_steps = let same = h.steps in omega (arith, same, first)

    by : (a : CpuStep) → EndsWith a h.went most h.here new h.between taken' count count' → (k : ℕ) → k < new.steps → has_run (run_from start) k ≡ true
    by cpu.Went e k less = before k (let same = ap (λ (x : Shown). x.steps) e.1 ∙ here_steps in omega (arith, same, less))
    by (cpu.Ended status) e k less = elim (cases_lt k h.went) [
      | inl earlier ↦ before k earlier
      | inr other ↦
          let same = ap (λ (x : Shown). x.steps) e.1.1 ∙ ap (λ a. counted a h.here.steps) (sym e.1.0) in
          let steps = here_steps in
          let is : h.went ≡ k = omega (arith, same, steps, less, other) in
          subst (λ j. has_run (run_from start) j ≡ true) is (ended start h.here h.went h.out h.at h.going status e.1.0)
    ]
    by (cpu.Fault kind) e k less =
        let same = ap (λ (x : Shown). x.steps) e.1.1 ∙ ap (λ a. counted a h.here.steps) (sym e.1.0) in
        let steps = here_steps in
        before k (omega (arith, same, steps, less))
    by cpu.WriteFault e k less = before k (let same = ap (λ (x : Shown). x.steps) e.1.0 ∙ here_steps in omega (arith, same, less))
