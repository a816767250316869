use Rattle.lg_selx_values.proofs.OfProcessor.TouchLemmas.{steps-overlook}
use Rattle.lg_selx_values.proofs.processor.laws.steps_overlook.Goals as goal

pub returns : goal.returns
returns c = steps-overlook
