use Rattle.lg_selr_values.proofs.OfProcessor.ComputerLemmas.{is-computer}
use Rattle.lg_selr_values.proofs.processor.laws.instructions_compute.Goals as goal

pub returns : goal.returns
returns c = is-computer
