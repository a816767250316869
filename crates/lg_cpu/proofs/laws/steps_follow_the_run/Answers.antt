use Rattle.lg_cpu.proofs.FollowLemmas.{steps-follow}
use Rattle.lg_cpu.proofs.laws.steps_follow_the_run.Goals as goal

pub returns : goal.returns
returns c = steps-follow
