-- The steps of a run of the portable machine, which are those that went or ended.
use Rattle.std.proofs.Common.{◌≡◌, ◌≢◌, ℕ, zero, suc, ◌+◌, ◌<◌, ◌≤◌, true, List, [], None, inl, inr, refl, sym, ap, ◌∙◌, arith}
use Rattle.std.specs.Prelude.{◌==◌, ◌&&◌, if◌then◌else◌}
use Rattle.std.proofs.lemmas.Bool.{cases_lt}
use Rattle.lg_base.specs.Runs.{Status, Running, Ended, Bad}
use Rattle.lg_node.specs.Nodes.{LabelledNodes}
use Rattle.lg_node.specs.Shapes.{TextShape}
use Rattle.lg_meaning.specs.States.{State}
use Rattle.lg_meaning.specs.Means.{Run, machine, mean_from, run_at}
use Rattle.lg_meaning.specs.Texts.{line_at}
use Rattle.lg_meaning.proofs.MeanLemmas.{means_are_machines}
use Rattle.lg_mean.specs.declared.run.RunEnd.{RunEnd}
use Rattle.lg_mean.specs.declared.run.RunEnd.TheVariants as runs_end
use Rattle.lg_mean.specs.LineCounts.{at_line}
use Rattle.lg_mean.specs.Runs.{ComesTo}
use Rattle.lg_temp.proofs.Steps.{iter-after}
use Rattle.lg_prof.specs.Counted.{counted}
use Rattle.lg_prof.specs.Counts.{count, has_meant, meant_line}
use Rattle.lg_prof.proofs.CountLemmas.{bad_is_over, ended, ended_is_over, over_later, undefined_later, went}
use Rattle.lg_prof.proofs.SumLemmas.{unmade_until}

-- where each of the first steps was made, those of a line that were made are those of the line
all_counted : (l : LabelledNodes) (meaning : ℕ → Run) (line n : ℕ) → ((k : ℕ) → k < n → has_meant meaning k ≡ true) → at_line l meaning line n ≡ count l meaning line n
unfolding at_line counted
all_counted l meaning line zero each = refl
all_counted l meaning line (suc n) each =
    let before = all_counted l meaning line n (λ k lt. each k (omega (arith, lt))) in
    let here : ◌≡◌ {A = ℕ} (if has_meant meaning n && meant_line l meaning n == line then 1 else 0) (if line_at l (meaning n).state == line then 1 else 0) =
    ap (λ made. if made && meant_line l meaning n == line then 1 else 0) (each n (omega arith)) in
    omega (arith, before, here)

module _ (l : LabelledNodes) (shape : TextShape) (A : List ℕ) (start : State) where
  -- a run that goes on has gone on
  running_before : (k n : ℕ) → k ≤ n → (mean_from l shape A start n).status ≡ Running → (mean_from l shape A start k).status ≡ Running
  running_before k n le later = at (mean_from l shape A start k).status refl
    where
      after : (mean_from l shape A start k).status ≢ Running → (mean_from l shape A start k).status ≡ Running
      after over = ap (λ (r : Run). r.status) (sym (iter-after (machine l shape A) (means_are_machines l shape A).0 k n (run_at start []) le over)) ∙ later

      at : (s : Status) → (mean_from l shape A start k).status ≡ s → (mean_from l shape A start k).status ≡ Running
      at Running e = e
      at (Ended status) e = after (ended_is_over (mean_from l shape A start k).status status e)
      at Bad e = after (bad_is_over (mean_from l shape A start k).status e)

  made_before : (n : ℕ) → (mean_from l shape A start n).status ≡ Running → (k : ℕ) → k < n → has_meant (mean_from l shape A start) k ≡ true
  made_before n later k lt = went (mean_from l shape A start) k (running_before k n (omega (arith, lt)) later) (running_before (k + 1) n (omega (arith, lt)) later)

  -- those of a run of the machine to a sink that never fails are all
  pub count_is : (end : RunEnd) (n most : ℕ) (s : State) (at line : ℕ) → ComesTo (mean_from l shape A start) end n most s at None None 0 0
      → at_line l (mean_from l shape A start) line n ≡ count l (mean_from l shape A start) line most
  count_is (runs_end.Ended status) n most s at line (le, (k, is, goes, ends)) =
      let runs = mean_from l shape A start in
      let here = ap (λ (r : Run). r.status) goes.stands in
      let next : (runs (k + 1)).status ≡ Ended status = ap (λ (r : Run). r.status) ends.2 in
      let over : (runs n).status ≢ Running = ended_is_over (runs n).status status (ap (λ j. (runs j).status) is ∙ next) in
      all_counted l runs line n (λ j lt. elim (cases_lt j k) [
        | inl less ↦ made_before k here j less
        | inr other ↦ let same : j ≡ k = omega (arith, is, lt, other) in ap (has_meant runs) same ∙ ended runs k status here next
      ]) ∙ sym (unmade_until (has_meant runs) (meant_line l runs) line n most le (over_later l shape A start n over))
  count_is (runs_end.Undefined x) n most s at line (lt, goes, undefined, is) =
      let runs = mean_from l shape A start in
      let here = ap (λ (r : Run). r.status) goes.stands in
      all_counted l runs line n (made_before n here)
      ∙ sym (unmade_until (has_meant runs) (meant_line l runs) line n most (omega (arith, lt)) (undefined_later l shape A start n here (ap (λ (r : Run). r.status) undefined)))
  count_is runs_end.StepsOut n most s at line (is, goes) =
      let runs = mean_from l shape A start in
      all_counted l runs line n (made_before n (ap (λ (r : Run). r.status) goes.stands)) ∙ ap (count l runs line) is
  count_is runs_end.WriteFault n most s at line (lt, fails) = let rose = fails.rose in absurd (grind (arith, rose))
