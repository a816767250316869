use Rattle.std.proofs.Common.{◌≡◌}
use Rattle.lg_pre.specs.Given.{fed}
use Rattle.lg_macro.specs.Pieces.{between}
use Rattle.lg_pre.proofs.flush.feed.Given as goal

abbrev pub invariant-pieces : goal.invariant-pieces
invariant-pieces l = fed (between l.at l.end l.pieces) l.given ≡ fed (between l.from l.end l.pieces) l.fn.given
