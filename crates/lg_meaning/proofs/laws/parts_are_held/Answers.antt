use Rattle.lg_meaning.proofs.PartLemmas.{mean_holds}
use Rattle.lg_meaning.proofs.laws.parts_are_held.Goals as goal

pub returns : goal.returns
returns c = λ l shape A image args k is formed short few. mean_holds l shape image args short few A is (c.accepted_nodes_are_well_shaped.ensures l is.accepted) (c.accepted_nodes_have_functions.ensures l is.accepted) formed k
