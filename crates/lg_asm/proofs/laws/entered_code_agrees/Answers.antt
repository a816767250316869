use Rattle.lg_asm.proofs.WithstandLemmas.{entered-code-agrees}
use Rattle.lg_asm.proofs.laws.entered_code_agrees.Goals as goal

pub returns : goal.returns
returns c = entered-code-agrees
