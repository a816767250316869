use Rattle.lg_selx_values.proofs.ValueFitLemmas.{value-items-name}
use Rattle.lg_selx_values.proofs.laws.value_items_name_labels.Goals as goal

pub returns : goal.returns
returns c = value-items-name
