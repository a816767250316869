use Rattle.lg_tst.proofs.ReadingLemmas.{decided}
use Rattle.lg_tst.proofs.unit_laws.readings_decide.Goals as goal

pub returns : goal.returns
returns c = decided
