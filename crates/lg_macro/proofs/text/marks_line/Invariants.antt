use Rattle.std.proofs.Common.{◌≡◌, ◌≤◌, ◌-◌, length, drop}
use Rattle.lg_macro.specs.Text.{marks_line}
use Rattle.lg_macro.proofs.text.marks_line.Given as goal

abbrev pub invariant-spaces : goal.invariant-spaces
invariant-spaces l = (l.at ≤ length l.pieces) × (l.end ≡ length l.pieces) × (marks_line (drop l.at l.pieces) ≡ marks_line (drop l.from l.pieces))

abbrev pub decreases-spaces : goal.decreases-spaces
decreases-spaces l = length l.pieces - l.at
