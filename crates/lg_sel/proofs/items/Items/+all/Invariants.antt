use Rattle.std.proofs.Common.{length}
use Rattle.lg_sel.proofs.items.Items.+all.Given as goal

abbrev pub decreases-all : goal.decreases-all
decreases-all g l = length l.instrs.now
