use Rattle.lg_meaning.proofs.MeanLemmas.{mean_fits}
use Rattle.lg_meaning.proofs.laws.states_of_the_meaning_fit.Goals as goal

pub returns : goal.returns
returns c = λ l shape A e b k is formed may begins.
    mean_fits l shape A is (c.accepted_nodes_are_well_shaped.ensures l is.accepted) (c.accepted_nodes_have_functions.ensures l is.accepted) formed e b may begins k
