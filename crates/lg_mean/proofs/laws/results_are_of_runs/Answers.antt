use Rattle.lg_mean.proofs.ResultLemmas.{words_left}
use Rattle.lg_mean.proofs.laws.results_are_of_runs.Goals as goal

pub returns : goal.returns
returns c = words_left c.steps_are_those_of_the_meaning.ensures
