use Rattle.lg_sela.proofs.OfControl.WithinLemmas.{control-items-stay}
use Rattle.lg_sela.proofs.control.laws.control_items_stay.Goals as goal

pub returns : goal.returns
returns c = control-items-stay
