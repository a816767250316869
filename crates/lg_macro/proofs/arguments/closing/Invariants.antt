use Rattle.std.proofs.Common.{◌≡◌, ◌≤◌, ◌+◌, ◌-◌, length, drop}
use Rattle.lg_lex.specs.Bytes.{further}
use Rattle.lg_macro.specs.Arguments.{closing}
use Rattle.lg_macro.proofs.arguments.closing.Given as goal

abbrev pub invariant-inner : goal.invariant-inner
invariant-inner l = (l.from + l.n ≤ length l.pieces) × (l.end ≡ length l.pieces) × (l.depth ≤ l.n) × (closing 0 (drop l.from l.pieces) ≡ further l.n (closing l.depth (drop (l.from + l.n) l.pieces)))

abbrev pub decreases-inner : goal.decreases-inner
decreases-inner l = length l.pieces - l.n
