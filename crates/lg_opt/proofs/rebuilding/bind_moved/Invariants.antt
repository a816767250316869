use Rattle.std.proofs.Common.{◌≡◌, ◌<◌, ◌≤◌, ℕ, None, length, map}
use Rattle.std.specs.Prelude.{slice_index, slice_index_or}
use Rattle.lg_opt.specs.Remaining.{moved_place}
use Rattle.lg_opt.proofs.rebuilding.bind_moved.Given as goal

abbrev pub invariant-loop-index : goal.invariant-loop-index
invariant-loop-index l = record {
  nodes : l.list.nodes ≡ l.fn.list.nodes;
  words : l.list.words ≡ l.fn.list.words;
  count : length l.list.places ≡ length l.nodes.words;
  done : (k : ℕ) → k < l.index → slice_index_or l.list.places k None ≡ slice_index_or (map (moved_place (slice_index l.numbers)) l.nodes.places) k None;
  rest : (k : ℕ) → l.index ≤ k → k < length l.nodes.words → slice_index_or l.list.places k None ≡ None;
}
