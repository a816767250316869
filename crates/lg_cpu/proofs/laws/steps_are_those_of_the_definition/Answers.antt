use Rattle.lg_cpu.proofs.StepLemmas.{steps-those}
use Rattle.lg_cpu.proofs.laws.steps_are_those_of_the_definition.Goals as goal

pub returns : goal.returns
returns c = steps-those
