use Rattle.std.proofs.Common.{length}
use Rattle.lg_explain.proofs.say.+write_parts_of.Given as goal

abbrev pub decreases-write_parts_of : goal.decreases-write_parts_of
decreases-write_parts_of g l = length l.registers.now
