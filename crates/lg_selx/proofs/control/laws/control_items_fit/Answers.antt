use Rattle.lg_selx.proofs.OfControl.FitLemmas.{control-items-fit}
use Rattle.lg_selx.proofs.control.laws.control_items_fit.Goals as goal

pub returns : goal.returns
returns c = control-items-fit
