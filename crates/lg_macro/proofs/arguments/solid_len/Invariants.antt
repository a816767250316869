use Rattle.std.proofs.Common.{◌≡◌, ◌≤◌, ◌+◌, length, take, drop}
use Rattle.lg_macro.specs.Arguments.{solid_len}
use Rattle.lg_macro.proofs.arguments.solid_len.Given as goal

abbrev pub invariant-white : goal.invariant-white
invariant-white l = (l.from + l.n ≤ length l.pieces) × (solid_len (drop l.from l.pieces) ≡ solid_len (take l.n (drop l.from l.pieces)))

abbrev pub decreases-white : goal.decreases-white
decreases-white l = l.n
