-- The machine's steps are those of the portable meaning.
use Rattle.std.proofs.Common.{◌≡◌, ◌≢◌, ℕ, ◌+◌, List, [], ◌++◌, Option, Some, None, refl, ap, ◌∙◌, inl, inr, append_assoc, append-nil}
use Rattle.std.specs.Io.KnownBytes.{Appends}
use Rattle.lg_node.specs.Nodes.{LabelledNodes}
use Rattle.lg_node.specs.Shapes.{TextShape}
use Rattle.lg_meaning.specs.States.{State}
use Rattle.lg_meaning.specs.Steps.{Outcome, Goes, Ends, Undefined}
use Rattle.lg_meaning.specs.Texts.{step}
use Rattle.lg_meaning.specs.Means.{run_at, behind, mean_from}
use Rattle.lg_meaning.specs.Laws.{StepsAreMeans}
use Rattle.lg_mean.specs.declared.mean_step.MeanStep.{MeanStep}
use Rattle.lg_mean.specs.declared.mean_step.MeanStep.TheVariants as mean
use Rattle.lg_mean.specs.Says.{Steps}
use Rattle.lg_mean.specs.Follows.{StepsFollow, IsBehind}

-- known bytes that grew
grown : (out' : Option (List ℕ)) (xs bytes : List ℕ) → Appends (Some xs) out' bytes → out' ≡ Some (xs ++ bytes)
grown (Some ys) xs bytes h = ap Some h
grown None xs bytes h = absurd h

module _ (l : LabelledNodes) (shape : TextShape) (A : List ℕ) (start old : State) (out : List ℕ) (k : ℕ) (next : mean_from l shape A start (k + 1) ≡ behind (run_at old out) (step l shape A old)) (before : List ℕ) (line : ℕ) where
  by_outcome : (o : Outcome) → step l shape A old ≡ o → (answer : MeanStep) (new : State) (out' : Option (List ℕ)) (faults faults' : ℕ) → Steps o line old answer new (Some (before ++ out)) out' faults faults' → answer ≢ mean.WriteFault → IsBehind l shape A start k answer new before out out'
  by_outcome (Goes t bytes) e answer new out' faults faults' (inl x) fine = record {
    bytes = bytes;
    ending = None;
    stands = next ∙ ap (behind (run_at old out)) e ∙ rw (x.0, x.1) refl;
    written = grown out' (before ++ out) bytes x.2 ∙ ap Some (append_assoc before out bytes);
  }
  by_outcome (Goes t bytes) e answer new out' faults faults' (inr x) fine = absurd (fine x.0)
  by_outcome (Ends x') e answer new out' faults faults' x fine = record {
    bytes = [];
    ending = Some x';
    stands = next ∙ ap (behind (run_at old out)) e ∙ rw (x.0, x.1, append-nil out) refl;
    written = grown out' (before ++ out) [] x.2 ∙ ap Some (append_assoc before out []);
  }
  by_outcome Undefined e answer new out' faults faults' x fine = record {
    bytes = [];
    ending = None;
    stands = next ∙ ap (behind (run_at old out)) e ∙ rw (x.0, x.1, append-nil out) refl;
    written = grown out' (before ++ out) [] x.2 ∙ ap Some (append_assoc before out []);
  }

pub steps-follow : StepsAreMeans → StepsFollow
steps-follow law l shape A start k line old new answer before out out' faults faults' at says fine =
    by_outcome l shape A start old out k (law l shape A start old out k at) before line (step l shape A old) refl answer new out' faults faults' says fine
