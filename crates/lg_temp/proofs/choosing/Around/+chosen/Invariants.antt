use Rattle.std.proofs.Common.{length}
use Rattle.lg_temp.proofs.choosing.Around.+chosen.Given as goal

abbrev pub decreases-chosen : goal.decreases-chosen
decreases-chosen l = length l.left.now
