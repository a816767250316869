use Rattle.lg_expression.proofs.LocalLemmas.{local-in-frame}
use Rattle.lg_expression.proofs.meaning_laws.locals_lie_in_the_frame.Goals as goal

pub returns : goal.returns
returns c = local-in-frame
