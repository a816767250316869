use Rattle.lg_asm.proofs.WithstandLemmas.{called-code-agrees}
use Rattle.lg_asm.proofs.laws.called_code_agrees.Goals as goal

pub returns : goal.returns
returns c = called-code-agrees
