-- The blanks so far lead to the same place.
use Rattle.std.proofs.Common.{◌≡◌, ℕ, ◌+◌, ◌-◌, ◌<◌, ◌≤◌, length}
use Rattle.lg_lex.specs.Blanks.{after_most_blanks, after_blanks}
use Rattle.lg_lex.proofs.blanks.after_blanks.Given as goal

abbrev pub invariant-blanks : goal.invariant-blanks
invariant-blanks l =
    (l.fn.place ≤ l.at) × (l.at ≤ length l.bytes)
    × ((k : ℕ) × (length l.bytes < l.at + k) × (after_most_blanks k l.bytes l.at ≡ after_blanks l.bytes l.fn.place))

abbrev pub decreases-blanks : goal.decreases-blanks
decreases-blanks l = length l.bytes - l.at
