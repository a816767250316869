use Rattle.std.proofs.Common.{◌≡◌, take}
use Rattle.lg_explain.specs.Lines.{shown}
use Rattle.lg_io.specs.Wrote.{joined}
use Rattle.lg_explain.proofs.line.Shown.of_row.Given as goal

abbrev pub invariant-loop-piece : goal.invariant-loop-piece
invariant-loop-piece l = l.shown ≡ shown (joined (take l.piece-index l.pieces))
