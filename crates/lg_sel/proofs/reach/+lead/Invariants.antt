use Rattle.std.proofs.Common.{length}
use Rattle.lg_sel.proofs.reach.+lead.Given as goal

abbrev pub decreases-lead : goal.decreases-lead
decreases-lead g l = length l.items.now
