use Rattle.std.proofs.Common.{◌≡◌, ◌≤◌, ◌+◌, ◌-◌, false, length, drop}
use Rattle.lg_macro.specs.Text.{line_len}
use Rattle.lg_macro.proofs.text.line_len.Given as goal

abbrev pub invariant-line : goal.invariant-line
invariant-line l = (l.from + l.n ≤ length l.pieces) × (l.end ≡ length l.pieces)
    × (l.n + line_len l.goes_on l.slash (drop (l.from + l.n) l.pieces) ≡ line_len l.goes_on false (drop l.from l.pieces))

abbrev pub decreases-line : goal.decreases-line
decreases-line l = length l.pieces - l.n
