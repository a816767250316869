use Rattle.std.proofs.Common.{◌≡◌, ◌≤◌, fold}
use Rattle.lg_macro.specs.Defines.{with_len, size_of}
use Rattle.lg_macro.specs.Pieces.{between}
use Rattle.lg_macro.proofs.body.size_of.Given as goal

abbrev pub invariant-pieces : goal.invariant-pieces
invariant-pieces l = (l.n ≤ 16777217) × (fold with_len l.n (between l.at l.end l.pieces) ≡ size_of (between l.from l.end l.pieces))
