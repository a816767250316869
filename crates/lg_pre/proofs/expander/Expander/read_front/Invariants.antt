use Rattle.std.proofs.Common.{◌≡◌, ◌≤◌, ◌-◌, length, drop}
use Rattle.lg_pre.specs.Windows.{GoesOn}
use Rattle.lg_pre.proofs.expander.Expander.read_front.Given as goal

abbrev pub invariant-lines : goal.invariant-lines
invariant-lines l = (l.end ≡ length l.text) × (l.at ≤ l.end) × GoesOn l.text l.fn.self (drop l.at l.text) l.self

abbrev pub decreases-lines : goal.decreases-lines
decreases-lines l = l.end - l.at
