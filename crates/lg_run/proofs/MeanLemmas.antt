-- A run of the portable machine says what an answer of the mode `mean` says.
use Rattle.std.proofs.Common.{◌≡◌, ℕ, ◌-◌, ◌≤◌, List, [], ◌++◌, take, sym, ap, ◌∙◌, subst, arith}
use Rattle.lg_node.specs.Nodes.{LabelledNodes}
use Rattle.lg_node.specs.Shapes.{TextShape}
use Rattle.lg_meaning.specs.States.{State}
use Rattle.lg_meaning.specs.Texts.{line_at}
use Rattle.lg_meaning.specs.Means.{Run, machine, mean_from, run_at}
use Rattle.lg_meaning.proofs.MeanLemmas.{means_are_machines}
use Rattle.lg_mean.specs.Runs.{ComesTo, KeepsCountAfter}
use Rattle.lg_mean.specs.declared.run.RunEnd.{RunEnd}
use Rattle.lg_mean.specs.declared.run.RunEnd.TheVariants as runs_end
use Rattle.lg_io.specs.SinkChanges.{SinkChange, Took}
use Rattle.lg_run.specs.Changes.{TellsWrites}
use Rattle.lg_run.specs.Means.{answer_of}
use Rattle.lg_run.specs.Runs.{HasMeant, MeanSays}
use Rattle.lg_run.specs.declared.answer.Answer.{Answer}
use Rattle.lg_run.proofs.OverLemmas as over

module _ (l : LabelledNodes) (shape : TextShape) (A : List ℕ) (start : State) where
  abbrev meaning : ℕ → Run
  meaning n = mean_from l shape A start n

  pub has_meant : (n k : ℕ) → n ≤ k → HasMeant meaning k → HasMeant meaning n
  has_meant n k le here = over.going_before (machine l shape A) (means_are_machines l shape A).0 (run_at start []) n k le here

  pub comes : (end : RunEnd) (n most : ℕ) (s : State) (c : SinkChange) → ComesTo meaning end n most s (line_at l s) c.taken c.taken' c.faults c.faults' → MeanSays l meaning most n c (answer_of end)
  comes (runs_end.Ended status) n most s c h =
      let k = h.1.0 in let g = h.1.2 in (
        h.0,
        ap (λ j. (meaning j).status) h.1.1 ∙ ap (λ r. r.status) h.1.3.2,
        λ j lt. let is = h.1.1 in let le : j ≤ k = omega (arith, lt, is) in has_meant j k le (ap (λ r. r.status) g.stands),
        subst (Took c) (sym (ap (λ j. (meaning j).out) h.1.1 ∙ ap (λ r. r.out) h.1.3.2 ∙ ap (λ r. r.out) g.stands)) g.written,
      )
  comes (runs_end.Undefined line) n most s c h =
      let g = h.1 in (
        h.0,
        ap (λ r. r.status) g.stands,
        ap (λ r. r.status) h.2,
        h.3 ∙ sym (ap (λ r. line_at l r.state) g.stands),
        subst (Took c) (sym (ap (λ r. r.out) h.2 ∙ ap (λ r. r.out) g.stands)) g.written,
      )
  comes runs_end.StepsOut n most s c h =
      let g = h.1 in (h.0, ap (λ r. r.status) g.stands, subst (Took c) (sym (ap (λ r. r.out) g.stands)) g.written)
  comes runs_end.WriteFault n most s c h =
      let f = h.1 in
      let before = ap (λ r. r.out) f.stands in (
        h.0,
        ap (λ r. r.status) f.stands,
        (
          f.more,
          ap (λ r. r.out) f.goes ∙ sym (ap (λ b. b ++ f.more) before),
          (f.part, f.short, subst (λ b. Took c (b ++ take f.part f.more)) (sym before) f.written),
        ),
      )

  -- the answer and the steps that the code gives
  pub told : (end : RunEnd) (answer : Answer) (before after steps most : ℕ) (s : State) (c : SinkChange) → before ≡ 0 → steps ≡ after → answer ≡ answer_of end
      → ComesTo meaning end (after - before) most s (line_at l s) c.taken c.taken' c.faults c.faults' → MeanSays l meaning most steps c answer
  told end answer before after steps most s c first counted is says =
      let same : after - before ≡ steps = omega (arith, first, counted) in
      subst (MeanSays l meaning most steps c) (sym is)
      (subst (λ n. MeanSays l meaning most n c (answer_of end)) same (comes end (after - before) most s c says))

  -- a write fault comes exactly where the count rose
  pub writes : (end : RunEnd) (answer : Answer) (n most line : ℕ) (s : State) (c : SinkChange) → answer ≡ answer_of end → KeepsCountAfter end c.faults c.faults'
      → ComesTo meaning end n most s line c.taken c.taken' c.faults c.faults' → TellsWrites answer c
  writes end answer n most line s c is kept says = subst (λ a. TellsWrites a c) (sym is) (at end kept says)
    where
      at : (end : RunEnd) → KeepsCountAfter end c.faults c.faults' → ComesTo meaning end n most s line c.taken c.taken' c.faults c.faults' → TellsWrites (answer_of end) c
      at runs_end.WriteFault kept says = says.1.rose
      at other kept says = kept
