use Rattle.lg_asm.proofs.AlignLemmas.{aligns-stand}
use Rattle.lg_asm.proofs.laws.aligns_stand.Goals as goal

pub returns : goal.returns
returns c = aligns-stand
