use Rattle.lg_sela_values.proofs.OfNodesLemmas.{items-are-node-code}
use Rattle.lg_sela_values.proofs.item_laws.items_are_node_code.Goals as goal

pub returns : goal.returns
returns c = items-are-node-code
