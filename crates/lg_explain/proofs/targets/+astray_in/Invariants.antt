use Rattle.std.proofs.Common.{length}
use Rattle.lg_explain.proofs.targets.+astray_in.Given as goal

abbrev pub decreases-astray_in : goal.decreases-astray_in
decreases-astray_in l = length l.forms.now
