use Rattle.lg_temp.proofs.FirstLemmas.{choices-are-first}
use Rattle.lg_temp.proofs.laws.choices_are_first.Goals as goal

pub returns : goal.returns
returns c = choices-are-first
