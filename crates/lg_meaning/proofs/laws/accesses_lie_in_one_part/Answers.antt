use Rattle.lg_meaning.proofs.AccessLemmas.{accesses-lie-in-one-part}
use Rattle.lg_meaning.proofs.laws.accesses_lie_in_one_part.Goals as goal

pub returns : goal.returns
returns c = accesses-lie-in-one-part
