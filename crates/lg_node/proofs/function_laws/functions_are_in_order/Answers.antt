use Rattle.lg_node.proofs.EndedLemmas.{in_order}
use Rattle.lg_node.proofs.function_laws.functions_are_in_order.Goals as goal

pub returns : goal.returns
returns c = in_order
