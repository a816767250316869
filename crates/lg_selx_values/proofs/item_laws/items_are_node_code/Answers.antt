use Rattle.lg_selx_values.proofs.OfNodesLemmas.{items-are-node-code}
use Rattle.lg_selx_values.proofs.item_laws.items_are_node_code.Goals as goal

pub returns : goal.returns
returns c = items-are-node-code
