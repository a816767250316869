use Rattle.std.proofs.Common.{◌≡◌}
use Rattle.lg_macro.specs.Arguments.{with_feeds}
use Rattle.lg_macro.specs.Pieces.{between}
use Rattle.lg_macro.proofs.arguments.push_feeds.Given as goal

abbrev pub invariant-pieces : goal.invariant-pieces
invariant-pieces l = with_feeds l.line l.out (between l.at l.end l.pieces) ≡ with_feeds l.line l.fn.out (between l.from l.end l.pieces)
