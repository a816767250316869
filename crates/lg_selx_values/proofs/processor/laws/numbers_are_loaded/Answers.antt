use Rattle.lg_selx_values.proofs.OfProcessor.NumberCodeLemmas.{numbers-are-loaded}
use Rattle.lg_selx_values.proofs.processor.laws.numbers_are_loaded.Goals as goal

pub returns : goal.returns
returns c = numbers-are-loaded
