use Rattle.lg_sela_values.proofs.OfNodesLemmas.{items-are-in-code}
use Rattle.lg_sela_values.proofs.item_laws.items_are_in_code.Goals as goal

pub returns : goal.returns
returns c = items-are-in-code
