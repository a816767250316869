use Rattle.lg_selx_values.proofs.ValueFitLemmas.{value-items-fit}
use Rattle.lg_selx_values.proofs.laws.value_items_fit.Goals as goal

pub returns : goal.returns
returns c = value-items-fit
