use Rattle.lg_asm.proofs.StartLemmas.{starts-called}
use Rattle.lg_asm.proofs.laws.starts_are_called.Goals as goal

pub returns : goal.returns
returns c = starts-called
