use Rattle.lg_asm.proofs.StartLemmas.{start-stands}
use Rattle.lg_asm.proofs.laws.start_stands.Goals as goal

pub returns : goal.returns
returns c = start-stands
