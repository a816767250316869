use Rattle.std.proofs.Common.{◌≡◌, ◌≤◌, ◌+◌, ◌-◌, length, drop}
use Rattle.lg_lex.specs.Bytes.{further}
use Rattle.lg_macro.specs.Arguments.{opening}
use Rattle.lg_macro.proofs.arguments.opening.Given as goal

abbrev pub invariant-white : goal.invariant-white
invariant-white l = (l.from + l.n ≤ length l.pieces) × (l.end ≡ length l.pieces) × (opening (drop l.from l.pieces) ≡ further l.n (opening (drop (l.from + l.n) l.pieces)))

abbrev pub decreases-white : goal.decreases-white
decreases-white l = length l.pieces - l.n
