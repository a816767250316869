use Rattle.std.proofs.Common.{◌≡◌, ◌++◌}
use Rattle.lg_macro.specs.Defines.{spliced}
use Rattle.lg_macro.specs.Pieces.{between}
use Rattle.lg_macro.proofs.defines.spliced.Given as goal

abbrev pub invariant-pieces : goal.invariant-pieces
invariant-pieces l = l.out ++ spliced (between l.at l.end l.pieces) ≡ spliced (between l.from l.end l.pieces)
