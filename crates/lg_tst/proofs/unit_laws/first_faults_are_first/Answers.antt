use Rattle.lg_tst.proofs.ReadingLemmas.{first-faults}
use Rattle.lg_tst.proofs.unit_laws.first_faults_are_first.Goals as goal

pub returns : goal.returns
returns c = first-faults
