use Rattle.lg_node.proofs.SuccessorLaws.{has_functions as law}
use Rattle.lg_node.proofs.laws.accepted_nodes_have_functions.Goals as goal

pub returns : goal.returns
returns c = law
