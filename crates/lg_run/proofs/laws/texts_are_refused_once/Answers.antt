use Rattle.lg_run.proofs.RefusedLemmas.{refused_once}
use Rattle.lg_run.proofs.laws.texts_are_refused_once.Goals as goal

pub returns : goal.returns
returns c = refused_once
