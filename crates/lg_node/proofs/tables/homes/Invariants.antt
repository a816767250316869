use Rattle.std.proofs.Common.{◌≡◌, ℕ, ◌<◌, ◌≤◌, None, length}
use Rattle.std.specs.Prelude.{slice_index_or, vec_capacity}
use Rattle.lg_node.specs.Functions.{home, open_before}
use Rattle.lg_node.proofs.tables.homes.Given as goal

abbrev pub invariant-loop-index : goal.invariant-loop-index
invariant-loop-index l = record {
  count : length l.homes.items ≡ l.index;
  room : length l.nodes.nodes ≤ vec_capacity l.homes;
  homes : (k : ℕ) → k < l.index → slice_index_or l.homes.items k None ≡ home l.nodes.nodes k;
  current : l.current ≡ open_before l.nodes.nodes l.index;
}
