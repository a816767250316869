use Rattle.std.proofs.Common.{length}
use Rattle.lg_live.proofs.uses.+named.Given as goal

abbrev pub decreases-named : goal.decreases-named
decreases-named l = length l.forms.now
