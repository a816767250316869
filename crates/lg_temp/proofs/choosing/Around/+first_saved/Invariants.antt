use Rattle.std.proofs.Common.{length}
use Rattle.lg_temp.proofs.choosing.Around.+first_saved.Given as goal

abbrev pub decreases-first_saved : goal.decreases-first_saved
decreases-first_saved l = length l.registers.now
