use Rattle.lg_meaning.proofs.KeepLemmas.{steps_fit}
use Rattle.lg_meaning.proofs.laws.steps_keep_the_fit.Goals as goal

pub returns : goal.returns
returns c = λ l shape A s t bytes is. steps_fit l shape A s t bytes is (c.accepted_nodes_are_well_shaped.ensures l is.accepted) (c.accepted_nodes_have_functions.ensures l is.accepted)
