use Rattle.std.proofs.Common.{length}
use Rattle.lg_op.proofs.node.+admit.Given as goal

abbrev pub decreases-admit : goal.decreases-admit
decreases-admit l = length l.forms.now
