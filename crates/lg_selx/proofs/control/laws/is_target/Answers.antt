use Rattle.lg_selx.proofs.OfControl.TargetLemmas.{is-target}
use Rattle.lg_selx.proofs.control.laws.is_target.Goals as goal

pub returns : goal.returns
returns c = is-target
