use Rattle.std.proofs.Common.{◌≡◌, ◌≤◌, ◌+◌, ◌-◌, true, length, drop}
use Rattle.lg_lex.specs.Bytes.{further}
use Rattle.lg_macro.specs.Text.{mark_in}
use Rattle.lg_macro.proofs.text.mark_in.Given as goal

abbrev pub invariant-margin : goal.invariant-margin
invariant-margin l = (l.from + l.n ≤ length l.pieces) × (l.end ≡ length l.pieces)
    × (mark_in true (drop l.from l.pieces) ≡ further l.n (mark_in l.fresh (drop (l.from + l.n) l.pieces)))

abbrev pub decreases-margin : goal.decreases-margin
decreases-margin l = length l.pieces - l.n
