use Rattle.lg_explain.proofs.MisfitsRefusedLemmas.{misfits}
use Rattle.lg_explain.proofs.laws.misfits_are_refused.Goals as goal

pub returns : goal.returns
returns c = misfits
