use Rattle.lg_meaning.proofs.StartLemmas.{start_may}
use Rattle.lg_meaning.proofs.laws.texts_may_begin.Goals as goal

pub returns : goal.returns
returns c = start_may
