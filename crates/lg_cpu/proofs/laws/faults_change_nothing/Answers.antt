use Rattle.lg_cpu.proofs.TargetLemmas.{faults-unchanged}
use Rattle.lg_cpu.proofs.laws.faults_change_nothing.Goals as goal

pub returns : goal.returns
returns c = faults-unchanged
