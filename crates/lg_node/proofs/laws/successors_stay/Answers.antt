use Rattle.lg_node.proofs.SuccessorLaws.{successors_stay as law}
use Rattle.lg_node.proofs.laws.successors_stay.Goals as goal

pub returns : goal.returns
returns c = law
