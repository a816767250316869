use Rattle.std.proofs.Common.{◌-◌, ◌≤◌, ◌<◌, ℕ, length}
use Rattle.std.specs.Prelude.{slice_index}
use Rattle.lg_prof.proofs.places.node_at.Given as goal

abbrev pub invariant-loop-low : goal.invariant-loop-low
invariant-loop-low l = record {
  order : l.low ≤ l.high;
  within : l.high ≤ length l.places.items;
  before : (i : ℕ) → i < l.low → slice_index l.places.items i ≤ l.place;
  behind : (i : ℕ) → l.high ≤ i → i < length l.places.items → l.place < slice_index l.places.items i;
}

abbrev pub decreases-loop-low : goal.decreases-loop-low
decreases-loop-low l = l.high - l.low
