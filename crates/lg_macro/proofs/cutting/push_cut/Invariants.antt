use Rattle.std.proofs.Common.{◌≡◌, ◌≤◌, ◌+◌, ◌-◌, ◌++◌, ℕ, length, drop}
use Rattle.lg_macro.specs.Cutting.{cut, cut_in}
use Rattle.lg_macro.proofs.cutting.push_cut.Given as goal

abbrev pub invariant-pieces : goal.invariant-pieces
invariant-pieces l = (l.end ≡ length l.bytes) × (l.at ≤ l.end) × ((k : ℕ) × (length l.bytes ≤ l.at + k) × (l.out ++ cut_in k l.line (drop l.at l.bytes) ≡ l.fn.out ++ cut l.line l.bytes))

abbrev pub decreases-pieces : goal.decreases-pieces
decreases-pieces l = l.end - l.at
