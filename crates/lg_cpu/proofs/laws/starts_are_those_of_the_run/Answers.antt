use Rattle.lg_cpu.proofs.FollowLemmas.{starts-run}
use Rattle.lg_cpu.proofs.laws.starts_are_those_of_the_run.Goals as goal

pub returns : goal.returns
returns c = starts-run
