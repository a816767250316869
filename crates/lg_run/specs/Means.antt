-- The run of the portable machine.
use Rattle.std.specs.Prelude.{ℕ}
use Rattle.lg_mean.specs.Machines.{state_of}
use Rattle.lg_mean.specs.Portables.{PortableState}
use Rattle.lg_mean.specs.declared.run.RunEnd.{RunEnd}
use Rattle.lg_mean.specs.declared.run.RunEnd.TheVariants as runs_end
use Rattle.lg_meaning.specs.Means as means
use Rattle.lg_node.specs.Nodes.{LabelledNodes}
use Rattle.lg_node.specs.Shapes.{TextShape}
use Rattle.lg_io.specs.SinkChanges.{SinkChange}
use Rattle.lg_run.specs.Runs.{MeanSays}
use Rattle.lg_run.specs.declared.answer.Answer.{Answer}
use Rattle.lg_run.specs.declared.answer.Answer.TheVariants as answer
use Rattle.lg_run.specs.declared.run.Ran.{Ran}

abbrev pub answer_of : RunEnd → Answer
answer_of (runs_end.Ended status) = answer.Ended status
answer_of (runs_end.Undefined line) = answer.Undefined line
answer_of runs_end.StepsOut = answer.StepsOut
answer_of runs_end.WriteFault = answer.WriteFault

-- the meaning of nodes from where the machine is
abbrev pub meaning_from : LabelledNodes → TextShape → PortableState → ℕ → means.Run
meaning_from nodes shape p = means.mean_from nodes shape p.labels.addresses (state_of p.machine)

-- what a run of at most this many steps says of it
abbrev pub MeantFrom : LabelledNodes → TextShape → PortableState → (most : ℕ) → SinkChange → Ran → Type 0
MeantFrom nodes shape p most out ran = MeanSays nodes (meaning_from nodes shape p) most ran.steps out ran.answer
