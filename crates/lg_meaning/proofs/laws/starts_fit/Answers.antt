use Rattle.lg_meaning.proofs.StartLemmas.{start_fits}
use Rattle.lg_meaning.proofs.laws.starts_fit.Goals as goal

pub returns : goal.returns
returns c = λ l shape is e b may begins.
    start_fits l shape is (c.accepted_nodes_are_well_shaped.ensures l is.accepted) (c.accepted_nodes_have_functions.ensures l is.accepted) e may b begins
