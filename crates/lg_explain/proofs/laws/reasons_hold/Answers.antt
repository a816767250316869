use Rattle.lg_explain.proofs.ReasonLemmas.{hold}
use Rattle.lg_explain.proofs.laws.reasons_hold.Goals as goal

pub returns : goal.returns
returns c = hold
