use Rattle.std.proofs.Common.{◌≡◌, fold}
use Rattle.lg_macro.specs.Defines.{with_piece, body_of}
use Rattle.lg_macro.specs.Pieces.{between}
use Rattle.lg_macro.proofs.body.body_of.Given as goal

abbrev pub invariant-pieces : goal.invariant-pieces
invariant-pieces l = fold (with_piece l.names) l.body (between l.at l.end l.pieces) ≡ body_of l.names (between l.from l.end l.pieces)
