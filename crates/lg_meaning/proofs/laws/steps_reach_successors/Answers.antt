use Rattle.lg_meaning.proofs.ReachLemmas.{reaches}
use Rattle.lg_meaning.proofs.laws.steps_reach_successors.Goals as goal

pub returns : goal.returns
returns c = reaches
