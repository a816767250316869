use Rattle.std.proofs.Common.{length}
use Rattle.lg_temp.proofs.choosing.+spills.Given as goal

abbrev pub decreases-spills : goal.decreases-spills
decreases-spills l = length l.choices.now
