use Rattle.lg_sela_values.proofs.OfProcessor.SlotLemmas.{are-spills}
use Rattle.lg_sela_values.proofs.processor.laws.instructions_are_spills.Goals as goal

pub returns : goal.returns
returns c = are-spills
