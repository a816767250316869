use Rattle.lg_meaning.proofs.WhyLemmas.{steps_why}
use Rattle.lg_meaning.proofs.laws.steps_are_undefined_by_the_table.Goals as goal

pub returns : goal.returns
returns c = steps_why
