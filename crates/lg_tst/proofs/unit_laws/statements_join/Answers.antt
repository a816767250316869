use Rattle.lg_tst.proofs.ReadingLemmas.{statements-join}
use Rattle.lg_tst.proofs.unit_laws.statements_join.Goals as goal

pub returns : goal.returns
returns c = statements-join
