use Rattle.lg_replacement.proofs.ReplacementLemmas.{hidden-stay}
use Rattle.lg_replacement.proofs.laws.hidden_names_stay.Goals as goal

pub returns : goal.returns
returns c = hidden-stay
