use Rattle.lg_selx.proofs.OfControl.WithinLemmas.{control-items-stay}
use Rattle.lg_selx.proofs.control.laws.control_items_stay.Goals as goal

pub returns : goal.returns
returns c = control-items-stay
