use Rattle.lg_selx_values.proofs.BinaryCodeLemmas.{binaries-are-made}
use Rattle.lg_selx_values.proofs.laws.binaries_are_made.Goals as goal

pub returns : goal.returns
returns c = binaries-are-made
