use Rattle.lg_expression.proofs.ReadLemmas.{once}
use Rattle.lg_expression.proofs.laws.texts_spell_once.Goals as goal

pub returns : goal.returns
returns c = once
