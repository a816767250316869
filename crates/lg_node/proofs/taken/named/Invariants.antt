use Rattle.std.proofs.Common.{◌≡◌, ℕ, ◌<◌, false, length, take}
use Rattle.std.specs.Prelude.{slice_index_or}
use Rattle.std.specs.List.{list_any}
use Rattle.lg_node.specs.Labels.{names_address}
use Rattle.lg_node.proofs.taken.named.Given as goal

abbrev pub invariant-loop-index : goal.invariant-loop-index
invariant-loop-index l = record {
  count : length l.marks.items ≡ length l.nodes.places;
  marks : (label : ℕ) → label < length l.nodes.places → slice_index_or l.marks.items label false ≡ list_any (names_address label) (take l.index l.nodes.nodes);
}
