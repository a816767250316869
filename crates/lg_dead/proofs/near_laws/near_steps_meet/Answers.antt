use Rattle.lg_dead.proofs.NeedLemmas.{near-steps}
use Rattle.lg_dead.proofs.near_laws.near_steps_meet.Goals as goal

pub returns : goal.returns
returns c = near-steps
