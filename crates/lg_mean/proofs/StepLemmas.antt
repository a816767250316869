-- From the answer of a step that neither ends the run nor writes to that of a whole step.
use Rattle.std.proofs.Common.{◌≡◌, ℕ, Bool, List, Option, ap, ◌∙◌, inl}
use Rattle.std.proofs.KnownBytes.{Appends-nil}
use Rattle.lg_mean.specs.declared.mean_step.MeanStep.{MeanStep}
use Rattle.lg_meaning.specs.States.{State}
use Rattle.lg_meaning.specs.Steps.{Outcome, Goes, Ends, Undefined}
use Rattle.lg_mean.specs.Says.{Does, Steps, answer_of}

pub does_steps : (o : Outcome) (line : ℕ) (old : State) (went : Bool) (a : MeanStep) (new : State) (t : Option (List ℕ)) (f : ℕ) → a ≡ answer_of went line → Does o old went new → Steps o line old a new t t f f
does_steps (Goes u bytes) line old went a new t f e d = inl (e ∙ ap (λ w. answer_of w line) d.0, d.1, rw d.2 (Appends-nil t))
does_steps (Ends n) line old went a new t f e d = absurd d
does_steps Undefined line old went a new t f e d = (e ∙ ap (λ w. answer_of w line) d.0, d.1, Appends-nil t)
