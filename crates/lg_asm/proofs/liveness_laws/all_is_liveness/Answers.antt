use Rattle.lg_asm.proofs.LivenessLemmas.{all_live}
use Rattle.lg_asm.proofs.liveness_laws.all_is_liveness.Goals as goal

pub returns : goal.returns
returns c = all_live
