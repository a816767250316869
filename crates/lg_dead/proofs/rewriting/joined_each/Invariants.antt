use Rattle.std.proofs.Common.{◌≡◌, ◌+◌, ◌≤◌, length, map, take}
use Rattle.std.specs.Prelude.{slice_index}
use Rattle.lg_dead.proofs.rewriting.joined_each.Given as goal

abbrev pub invariant-loop-index : goal.invariant-loop-index
invariant-loop-index l = record {
  items : l.origin.items ≡ map (slice_index l.first.items) (take l.index l.second.items);
  room : length l.second.items ≤ l.origin.room + l.index;
}
