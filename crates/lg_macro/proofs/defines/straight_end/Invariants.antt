use Rattle.std.proofs.Common.{◌≡◌, ◌≤◌, ◌-◌, ◌++◌}
use Rattle.lg_macro.specs.Defines.{spliced}
use Rattle.lg_macro.specs.Pieces.{between}
use Rattle.lg_macro.proofs.defines.straight_end.Given as goal

abbrev pub invariant-straight : goal.invariant-straight
invariant-straight l = (l.from ≤ l.at) × (l.at ≤ l.end) × (between l.from l.at l.pieces ++ spliced (between l.at l.end l.pieces) ≡ spliced (between l.from l.end l.pieces))

abbrev pub decreases-straight : goal.decreases-straight
decreases-straight l = l.end - l.at
