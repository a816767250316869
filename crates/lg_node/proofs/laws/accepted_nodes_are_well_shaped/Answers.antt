use Rattle.lg_node.proofs.WellShaped.{well_shaped as law}
use Rattle.lg_node.proofs.laws.accepted_nodes_are_well_shaped.Goals as goal

pub returns : goal.returns
returns c = law
