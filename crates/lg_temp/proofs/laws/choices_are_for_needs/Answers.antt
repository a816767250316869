use Rattle.lg_temp.proofs.ChoiceLemmas.{choices-are-for}
use Rattle.lg_temp.proofs.laws.choices_are_for_needs.Goals as goal

pub returns : goal.returns
returns c = choices-are-for
