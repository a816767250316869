-- The machine's steps are those of the portable meaning.
use Rattle.std.specs.Prelude.{◌≡◌, ◌≢◌, ℕ, ◌+◌, List, ◌++◌, Option, Some}
use Rattle.lg_base.specs.Runs.{Status, Running, Ended, Bad}
use Rattle.lg_node.specs.Nodes.{LabelledNodes}
use Rattle.lg_node.specs.Shapes.{TextShape}
use Rattle.lg_meaning.specs.States.{State}
use Rattle.lg_meaning.specs.Steps.{Ending}
use Rattle.lg_meaning.specs.Texts.{step}
use Rattle.lg_meaning.specs.Means.{run_at, mean_from}
use Rattle.lg_mean.specs.declared.mean_step.MeanStep.{MeanStep}
use Rattle.lg_mean.specs.declared.mean_step.MeanStep.TheVariants as mean
use Rattle.lg_mean.specs.Says.{Steps}

-- the state of a run after a step with this answer
abbrev pub status_after : MeanStep → Status
status_after mean.Went = Running
status_after (mean.Ended status) = Ended status
status_after (mean.Undefined line) = Bad
status_after mean.WriteFault = Running

-- after an answer the meaning is at the machine's new state, and the machine has written what the meaning has written
pub record IsBehind (l : LabelledNodes) (shape : TextShape) (addresses : List ℕ) (start : State) (k : ℕ) (answer : MeanStep) (new : State)
    (before out : List ℕ) (out' : Option (List ℕ)) : Type 0 where
  pub bytes : List ℕ
  pub ending : Option Ending
  pub stands : mean_from l shape addresses start (k + 1) ≡ record { status = status_after answer; state = new; out = out ++ bytes; ending = ending }
  pub written : out' ≡ Some (before ++ (out ++ bytes))

-- where a machine is in the state of the meaning after k steps, and a step of it meets no fault of its sink, it is in the state of the meaning after k + 1
-- steps once that step is made
abbrev pub StepsFollow : Type 0
StepsFollow = (l : LabelledNodes) (shape : TextShape) (addresses : List ℕ) (start : State) (k line : ℕ) (old new : State) (answer : MeanStep)
    (before out : List ℕ) (out' : Option (List ℕ)) (faults faults' : ℕ)
    → mean_from l shape addresses start k ≡ run_at old out
    → Steps (step l shape addresses old) line old answer new (Some (before ++ out)) out' faults faults'
    → answer ≢ mean.WriteFault
    → IsBehind l shape addresses start k answer new before out out'
