use Rattle.lg_asm.proofs.LivenessLemmas.{liveness}
use Rattle.lg_asm.proofs.liveness_laws.live_sets_are_liveness.Goals as goal

pub returns : goal.returns
returns c = liveness c.steps_reach_successors.ensures
