use Rattle.lg_selx_values.proofs.ValueNodeLemmas.{value-nodes-carry}
use Rattle.lg_selx_values.proofs.laws.value_nodes_are_carried.Goals as goal

pub returns : goal.returns
returns c = value-nodes-carry
