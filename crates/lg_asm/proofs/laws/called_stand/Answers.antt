use Rattle.lg_asm.proofs.StartLemmas.{called-stand}
use Rattle.lg_asm.proofs.laws.called_stand.Goals as goal

pub returns : goal.returns
returns c = called-stand
