use Rattle.lg_selx_values.proofs.OfProcessor.TouchLemmas.{steps-leave}
use Rattle.lg_selx_values.proofs.processor.laws.steps_leave.Goals as goal

pub returns : goal.returns
returns c = steps-leave
