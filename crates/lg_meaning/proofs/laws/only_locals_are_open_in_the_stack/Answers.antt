use Rattle.lg_meaning.proofs.StackLemmas.{opens_locals}
use Rattle.lg_meaning.proofs.laws.only_locals_are_open_in_the_stack.Goals as goal

pub returns : goal.returns
returns c = opens_locals
