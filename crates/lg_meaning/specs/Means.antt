-- The runs of the portable meaning.
use Rattle.std.specs.Prelude.{ℕ, List, [], ◌++◌, Option, Some, None}
use Rattle.lg_base.specs.Runs.{Status, Running, Ended, Bad, Machine, iter}
use Rattle.lg_node.specs.Nodes.{LabelledNodes}
use Rattle.lg_node.specs.Shapes.{TextShape}
use Rattle.lg_meaning.specs.States.{State}
use Rattle.lg_meaning.specs.Steps.{Ending, ending_status, Outcome, Goes, Ends, Undefined}
use Rattle.lg_meaning.specs.Texts.{step}
use Rattle.lg_meaning.specs.Starts.{start_state}

-- a run: how it is (Bad where it has become undefined), its last state, the bytes that it has written, and how it ended last
pub record Run : Type 0 where
  pub status : Status
  pub state : State
  pub out : List ℕ
  pub ending : Option Ending

-- how it has ended, where it has
abbrev pub ending_in : Status → Option Ending → Option Ending
ending_in Running ending = None
ending_in status ending = ending

abbrev pub ending_of : Run → Option Ending
ending_of r = ending_in r.status r.ending

-- one that goes on, at a state
abbrev pub run_at : State → List ℕ → Run
run_at s out = record { status = Running; state = s; out = out; ending = None }

-- after a step with this outcome
abbrev pub behind : Run → Outcome → Run
behind r (Goes t bytes) = run_at t (r.out ++ bytes)
behind r (Ends e) = record r { status = Ended (ending_status e); ending = Some e }
behind r Undefined = record r { status = Bad }

-- a run that ended or became undefined stays so
abbrev pub going_on : Status → Run → Run → Run
going_on Running next r = next
going_on (Ended status) next r = r
going_on Bad next r = r

abbrev pub run_step : (State → Outcome) → Run → Run
run_step f r = going_on r.status (behind r (f r.state)) r

-- runs of a text as those of a machine
abbrev pub machine : LabelledNodes → TextShape → List ℕ → Machine Run
machine l shape addresses = record { step = run_step (step l shape addresses); status = λ r. r.status; out = λ r. r.out }

-- the run of a text after k steps from a state
abbrev pub mean_from : LabelledNodes → TextShape → List ℕ → State → ℕ → Run
mean_from l shape addresses start k = iter (run_step (step l shape addresses)) k (run_at start [])

-- the portable meaning after k steps, over the bytes of the data part and of the argument part
abbrev pub mean : LabelledNodes → TextShape → List ℕ → (image args : List ℕ) → ℕ → Run
mean l shape addresses image args k = mean_from l shape addresses (start_state image args) k
