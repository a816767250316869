use Rattle.lg_node.proofs.SuccessorLaws.{taken_inside as law}
use Rattle.lg_node.proofs.laws.taken_labels_are_inside.Goals as goal

pub returns : goal.returns
returns c = law
