use Rattle.lg_asm.proofs.EnterLemmas.{processors-enter}
use Rattle.lg_asm.proofs.laws.processors_enter.Goals as goal

pub returns : goal.returns
returns c = processors-enter
