use Rattle.lg_explain.proofs.FirstTwiceLemmas.{first_told}
use Rattle.lg_explain.proofs.laws.first_is_told.Goals as goal

pub returns : goal.returns
returns c = first_told
