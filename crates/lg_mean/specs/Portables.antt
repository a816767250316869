-- What contracts see of the portable machine with its text.
use Rattle.std.specs.Prelude.{ℕ, Option, Some, None}
use Rattle.lg_mean.specs.declared.mean_step.MeanStep.{MeanStep}
use Rattle.lg_mean.specs.declared.mean_step.MeanStep.TheVariants as mean
use Rattle.lg_mean.specs.Machines.{MachineState}
use Rattle.lg_mean.specs.Programs.{LabelTable}

-- the state as it is held, the labels, the answer of the last step if it is repeated from now on, and how many steps went or ended
pub record PortableState : Type 0 where
  pub machine : MachineState
  pub labels : LabelTable
  pub over : Option MeanStep
  pub steps : ℕ

-- an answer that is repeated from then on
abbrev pub over_of : MeanStep → Option MeanStep
over_of mean.Went = None
over_of answer = Some answer

-- whether a step is counted
abbrev pub counts : MeanStep → ℕ
counts mean.Went = 1
counts (mean.Ended n) = 1
counts (mean.Undefined n) = 0
counts mean.WriteFault = 0
