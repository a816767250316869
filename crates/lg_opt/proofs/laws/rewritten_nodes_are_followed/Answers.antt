use Rattle.lg_opt.proofs.FollowedLemmas.{law}
use Rattle.lg_opt.proofs.laws.rewritten_nodes_are_followed.Goals as goal

pub returns : goal.returns
returns c = law
