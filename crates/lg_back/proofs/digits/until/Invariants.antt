use Rattle.std.proofs.Common.{◌≡◌, ◌-◌, ◌≤◌, ◌++◌, length, take, drop}
use Rattle.lg_back.specs.Words.{until}
use Rattle.lg_back.proofs.digits.until.Given as goal

abbrev pub invariant-loop-end : goal.invariant-loop-end
invariant-loop-end l = record { within : l.end ≤ length l.text; value : until l.byte l.text ≡ take l.end l.text ++ until l.byte (drop l.end l.text) }

abbrev pub decreases-loop-end : goal.decreases-loop-end
decreases-loop-end l = length l.initial.text - l.end
