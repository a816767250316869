use Rattle.std.proofs.Common.{length}
use Rattle.lg_mean.proofs.why.+first.Given as goal

abbrev pub decreases-first : goal.decreases-first
decreases-first l = length l.rows.now
