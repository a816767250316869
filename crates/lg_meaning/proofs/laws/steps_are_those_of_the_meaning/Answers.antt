use Rattle.lg_meaning.proofs.MeanLemmas.{steps_are_means}
use Rattle.lg_meaning.proofs.laws.steps_are_those_of_the_meaning.Goals as goal

pub returns : goal.returns
returns c = steps_are_means
