use Rattle.lg_selx_values.proofs.ValueFitLemmas.{value-items-stay}
use Rattle.lg_selx_values.proofs.laws.value_items_stay.Goals as goal

pub returns : goal.returns
returns c = value-items-stay
