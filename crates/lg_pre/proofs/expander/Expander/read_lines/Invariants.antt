use Rattle.std.proofs.Common.{◌≡◌, ◌≤◌, ◌+◌, ◌-◌, ℕ, length}
use Rattle.lg_pre.specs.Expanded.{lines_in}
use Rattle.lg_pre.proofs.expander.Expander.read_lines.Given as goal

abbrev pub invariant-lines : goal.invariant-lines
invariant-lines l = (l.end ≡ length l.text) × (l.at ≤ l.end)
    × ((k : ℕ) × (length l.text ≤ l.at + k) × (lines_in k l.text l.self l.at ≡ lines_in (length l.text) l.text l.fn.self 0))

abbrev pub decreases-lines : goal.decreases-lines
decreases-lines l = l.end - l.at
