-- Where the portable machine is before a step that is undefined.
use Rattle.std.proofs.Common.{◌≡◌, ℕ, ◌-◌, List, Option, Some, refl, sym, ap, ◌∙◌, subst, arith}
use Rattle.lg_explain.specs.Stops.{IsStuck}
use Rattle.lg_explain.specs.declared.stop.StuckAt.{StuckAt}
use Rattle.lg_io.specs.SinkChanges.{SinkChange}
use Rattle.lg_mean.specs.Runs.{ComesTo}
use Rattle.lg_mean.specs.declared.run.RunEnd.{RunEnd}
use Rattle.lg_mean.specs.declared.run.RunEnd.TheVariants as runs_end
use Rattle.lg_base.specs.Runs.{Bad}
use Rattle.lg_meaning.specs.Laws.{StepsAreMeans}
use Rattle.lg_meaning.specs.Means.{behind, mean_from, run_at}
use Rattle.lg_meaning.specs.States.{State}
use Rattle.lg_meaning.specs.Steps.{Outcome, Goes, Ends, Undefined}
use Rattle.lg_meaning.specs.Texts.{line_at, step}
use Rattle.lg_node.specs.Nodes.{LabelledNodes}
use Rattle.lg_node.specs.Shapes.{TextShape}
use Rattle.lg_run.specs.Explanations.{IsStepUndefined, StuckWhere, is_undefined}
use Rattle.lg_run.specs.Means.{answer_of}
use Rattle.lg_run.specs.declared.answer.Answer.{Answer}
use Rattle.lg_run.proofs.OverLemmas.{bad_running, ended_bad}

-- a run that becomes bad after an outcome does so by one that is undefined
undefined_of : (s : State) (out : List ℕ) (o : Outcome) → (behind (run_at s out) o).status ≡ Bad → o ≡ Undefined
undefined_of s out (Goes t bytes) e = absurd (bad_running (sym e))
undefined_of s out (Ends status) e = absurd (ended_bad e)
undefined_of s out Undefined e = refl

module _ (law : StepsAreMeans) (l : LabelledNodes) (shape : TextShape) (A : List ℕ) (start : State) (most : ℕ) (s : State) (c : SinkChange) where
  -- a run that came to an undefined step is before it
  pub step_undefined : (end : RunEnd) (n : ℕ) → ComesTo (mean_from l shape A start) end n most s (line_at l s) c.taken c.taken' c.faults c.faults' → IsStepUndefined end l shape A s
  step_undefined (runs_end.Ended status) n h = tt
  step_undefined (runs_end.Undefined line) n h =
      let g = h.1 in undefined_of s g.bytes (step l shape A s) (ap (λ r. r.status) (sym (law l shape A start s g.bytes n g.stands) ∙ h.2))
  step_undefined runs_end.StepsOut n h = tt
  step_undefined runs_end.WriteFault n h = tt

  -- what is said of it is said of the meaning
  stuck_there : (end : RunEnd) (n : ℕ) (stuck : Option StuckAt) → ComesTo (mean_from l shape A start) end n most s (line_at l s) c.taken c.taken' c.faults c.faults'
      → StuckWhere (is_undefined (answer_of end)) l shape A s stuck → StuckWhere (is_undefined (answer_of end)) l shape A (mean_from l shape A start n).state stuck
  stuck_there (runs_end.Undefined line) n stuck h told = subst (λ t. (at : StuckAt) × (stuck ≡ Some at) × IsStuck l shape A t at) (sym (ap (λ r. r.state) h.1.stands)) told
  stuck_there other n stuck h told = told

  pub stuck_told : (end : RunEnd) (answer : Answer) (before after steps : ℕ) (B : List ℕ) (stuck : Option StuckAt) → before ≡ 0 → steps ≡ after → answer ≡ answer_of end → B ≡ A
      → ComesTo (mean_from l shape A start) end (after - before) most s (line_at l s) c.taken c.taken' c.faults c.faults'
      → StuckWhere (is_undefined (answer_of end)) l shape B s stuck → StuckWhere (is_undefined answer) l shape A (mean_from l shape A start steps).state stuck
  stuck_told end answer before after steps B stuck first counted is labels says told =
      let same : after - before ≡ steps = omega (arith, first, counted) in
      subst (λ a. StuckWhere (is_undefined a) l shape A (mean_from l shape A start steps).state stuck) (sym is)
      (subst (λ n. StuckWhere (is_undefined (answer_of end)) l shape A (mean_from l shape A start n).state stuck) same
      (stuck_there end (after - before) stuck says (subst (λ X. StuckWhere (is_undefined (answer_of end)) l shape X s stuck) labels told)))
