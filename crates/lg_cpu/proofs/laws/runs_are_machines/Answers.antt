use Rattle.lg_cpu.proofs.TargetLemmas.{targets-are-machines}
use Rattle.lg_cpu.proofs.laws.runs_are_machines.Goals as goal

pub returns : goal.returns
returns c = targets-are-machines
