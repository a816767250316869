use Rattle.std.proofs.Common.{length}
use Rattle.lg_sel.proofs.operands.+see_numbers.Given as goal

abbrev pub decreases-see_numbers : goal.decreases-see_numbers
decreases-see_numbers l = length l.operands.now
