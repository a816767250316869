use Rattle.lg_explain.proofs.FirstTwiceLemmas.{first_is}
use Rattle.lg_explain.proofs.laws.first_is_made_twice.Goals as goal

pub returns : goal.returns
returns c = first_is
