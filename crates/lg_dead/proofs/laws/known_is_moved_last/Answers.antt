use Rattle.lg_dead.proofs.KnownLemmas.{known-is-moved-last}
use Rattle.lg_dead.proofs.laws.known_is_moved_last.Goals as goal

pub returns : goal.returns
returns c = known-is-moved-last
