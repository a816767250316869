use Rattle.lg_selr_values.proofs.OfProcessor.OutsideLemmas.{instructions-stay}
use Rattle.lg_selr_values.proofs.processor.laws.instructions_stay.Goals as goal

pub returns : goal.returns
returns c = instructions-stay
