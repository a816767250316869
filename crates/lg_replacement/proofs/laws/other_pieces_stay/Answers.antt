use Rattle.lg_replacement.proofs.ReplacementLemmas.{others-stay}
use Rattle.lg_replacement.proofs.laws.other_pieces_stay.Goals as goal

pub returns : goal.returns
returns c = others-stay
