use Rattle.lg_opt.proofs.ThreadedNodeLemmas.{threaded-stay}
use Rattle.lg_opt.proofs.laws.threaded_nodes_stay.Goals as goal

pub returns : goal.returns
returns c = threaded-stay
