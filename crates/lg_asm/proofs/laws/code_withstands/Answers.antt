use Rattle.lg_asm.proofs.WithstandLemmas.{code-withstands-with}
use Rattle.lg_asm.proofs.laws.code_withstands.Goals as goal

pub returns : goal.returns
returns c = code-withstands-with
