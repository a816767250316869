use Rattle.std.proofs.Common.{◌≡◌, ℕ, ◌<◌, false, length, take}
use Rattle.std.specs.Prelude.{slice_index_or}
use Rattle.std.specs.List.{list_any}
use Rattle.lg_node.specs.Labels.{is_at}
use Rattle.lg_node.proofs.tables.labelled.Given as goal

abbrev pub invariant-loop-label : goal.invariant-loop-label
invariant-loop-label l = record {
  count : length l.marks.items ≡ length l.nodes.nodes;
  marks : (i : ℕ) → i < length l.nodes.nodes → slice_index_or l.marks.items i false ≡ list_any (is_at i) (take l.label l.nodes.places);
}
