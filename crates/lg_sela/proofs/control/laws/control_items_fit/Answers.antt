use Rattle.lg_sela.proofs.OfControl.FitLemmas.{control-items-fit}
use Rattle.lg_sela.proofs.control.laws.control_items_fit.Goals as goal

pub returns : goal.returns
returns c = control-items-fit
