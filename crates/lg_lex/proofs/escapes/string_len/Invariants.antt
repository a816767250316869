-- What is left of the string ends where the whole does.
use Rattle.std.proofs.Common.{◌≡◌, ℕ, ◌+◌, ◌-◌, ◌≤◌, length, drop}
use Rattle.lg_lex.specs.Bytes.{further}
use Rattle.lg_lex.specs.Escapes.{string_rest, string_at}
use Rattle.lg_lex.proofs.escapes.string_len.Given as goal

abbrev pub invariant-units : goal.invariant-units
invariant-units l =
    (1 ≤ l.at) × (l.at ≤ length l.bytes)
    × ((k : ℕ) × (length l.bytes ≤ l.at + k) × (further l.at (string_rest k (drop l.at l.bytes)) ≡ string_at l.bytes))

abbrev pub decreases-units : goal.decreases-units
decreases-units l = length l.bytes - l.at
