use Rattle.lg_asm.proofs.CallsReturnLemmas.{calls-return}
use Rattle.lg_asm.proofs.laws.calls_return.Goals as goal

pub returns : goal.returns
returns c = calls-return
