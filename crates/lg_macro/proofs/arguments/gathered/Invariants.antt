use Rattle.std.proofs.Common.{◌≡◌, ◌≤◌, ◌+◌, []}
use Rattle.lg_macro.specs.Arguments.{gathered}
use Rattle.lg_macro.specs.Pieces.{between}
use Rattle.lg_macro.proofs.arguments.gathered.Given as goal

abbrev pub invariant-pieces : goal.invariant-pieces
invariant-pieces l = (l.depth + l.from ≤ l.at) × (gathered l.line l.depth l.done.items l.now (between l.at l.end l.pieces) ≡ gathered l.line 0 [] [] (between l.from l.end l.pieces))
