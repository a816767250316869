use Rattle.lg_replacement.proofs.ReplacementLemmas.{bodies-replace}
use Rattle.lg_replacement.proofs.laws.bodies_replace_names.Goals as goal

pub returns : goal.returns
returns c = bodies-replace
