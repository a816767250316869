use Rattle.lg_sela.proofs.OfControl.TargetLemmas.{is-target}
use Rattle.lg_sela.proofs.control.laws.is_target.Goals as goal

pub returns : goal.returns
returns c = is-target
