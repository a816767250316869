use Rattle.std.proofs.Common.{◌≡◌, ◌≤◌, ◌+◌, ◌-◌, ◌++◌, ℕ, length}
use Rattle.lg_pre.specs.Questions.{resolved_from, resolved}
use Rattle.lg_pre.proofs.questions.resolved.Given as goal

abbrev pub invariant-pieces : goal.invariant-pieces
invariant-pieces l = (l.end ≡ length l.pieces) × (l.at ≤ l.end)
    × ((k : ℕ) × (length l.pieces ≤ l.at + k) × (l.out ++ resolved_from l.table l.pieces k l.at ≡ resolved l.table l.pieces))

abbrev pub decreases-pieces : goal.decreases-pieces
decreases-pieces l = l.end - l.at
