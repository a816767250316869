use Rattle.lg_selx_values.proofs.OfProcessor.TouchLemmas.{steps-are-alike}
use Rattle.lg_selx_values.proofs.processor.laws.steps_are_alike.Goals as goal

pub returns : goal.returns
returns c = steps-are-alike
