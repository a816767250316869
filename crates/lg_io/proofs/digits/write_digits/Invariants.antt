use Rattle.std.proofs.Common.{◌≡◌, ℕ, ◌+◌, ◌^◌, ◌<◌, ◌≤◌, drop, length}
use Rattle.std.specs.Fmt.{digits, digits_onto}
use Rattle.lg_io.proofs.digits.write_digits.Given as goal

abbrev pub invariant-loop-at : goal.invariant-loop-at
invariant-loop-at l = record {
  told : (i : ℕ) → i ≡ 42 + l.at → digits l.base l.capitals l.number ≡ digits_onto i l.base l.capitals l.rest (drop l.at l.into);
  room : l.rest < 8 ^ l.at;
  positive : 0 < l.at;
  within : l.at ≤ 22;
  kept : length l.into ≡ 22;
}

abbrev pub decreases-loop-at : goal.decreases-loop-at
decreases-loop-at l = l.at
