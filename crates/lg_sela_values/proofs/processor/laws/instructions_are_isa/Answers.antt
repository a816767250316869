use Rattle.lg_sela_values.proofs.OfProcessor.IsaLemmas.{is-isa}
use Rattle.lg_sela_values.proofs.processor.laws.instructions_are_isa.Goals as goal

pub returns : goal.returns
returns c = is-isa
