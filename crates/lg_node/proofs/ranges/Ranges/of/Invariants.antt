use Rattle.std.proofs.Common.{◌≡◌, ℕ, ◌<◌, ◌≤◌, None, length}
use Rattle.std.specs.Prelude.{slice_index_or, vec_capacity}
use Rattle.lg_node.specs.Functions.{functions_before}
use Rattle.lg_node.specs.Tables.{number_of}
use Rattle.lg_node.specs.Walks.{walk_at}
use Rattle.lg_node.proofs.ranges.Ranges.of.Given as goal

abbrev pub invariant-loop-index : goal.invariant-loop-index
invariant-loop-index l = record {
  walk : l.walk ≡ walk_at l.nodes.nodes l.index;
  functions : l.functions.items ≡ functions_before l.nodes.nodes l.index;
  few : length l.functions.items ≤ l.index;
  count : length l.numbers.items ≡ l.index;
  room : length l.nodes.nodes ≤ vec_capacity l.numbers;
  numbers : (i : ℕ) → i < l.index → slice_index_or l.numbers.items i None ≡ number_of l.nodes.nodes i;
}
