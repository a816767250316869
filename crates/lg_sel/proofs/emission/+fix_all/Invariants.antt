use Rattle.std.proofs.Common.{length}
use Rattle.lg_sel.proofs.emission.+fix_all.Given as goal

abbrev pub decreases-fix_all : goal.decreases-fix_all
decreases-fix_all g l = length l.items.now
