use Rattle.lg_meaning.proofs.ReachLemmas.{taken-succeed}
use Rattle.lg_meaning.proofs.laws.taken_labels_are_successors.Goals as goal

pub returns : goal.returns
returns c = taken-succeed
