use Rattle.std.proofs.Common.{length}
use Rattle.lg_temp.proofs.choosing.+staged_in.Given as goal

abbrev pub decreases-staged_in : goal.decreases-staged_in
decreases-staged_in l = length l.registers.now
