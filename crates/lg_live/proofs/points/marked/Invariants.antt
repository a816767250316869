use Rattle.std.proofs.Common.{◌≡◌, ◌↔◌, ℕ, ◌<◌, true, false, length}
use Rattle.std.specs.Prelude.{slice_index_or}
use Rattle.lg_live.proofs.MarkLemmas.{IsTakenBefore}
use Rattle.lg_live.proofs.points.marked.Given as goal

abbrev pub invariant-loop-label : goal.invariant-loop-label
invariant-loop-label l = record {
  count : length l.marks.items ≡ length l.nodes.nodes;
  marked : (k : ℕ) → k < length l.nodes.nodes → (slice_index_or l.marks.items k false ≡ true) ↔ IsTakenBefore l.nodes l.shape k l.label;
}
