use Rattle.lg_node.proofs.SuccessorLaws.{successors_enter as law}
use Rattle.lg_node.proofs.laws.successors_enter.Goals as goal

pub returns : goal.returns
returns c = law
