use Rattle.std.proofs.Common.{◌≡◌, ℕ, ◌<◌, ◌||◌, false, length, take}
use Rattle.std.specs.Prelude.{slice_index_or}
use Rattle.std.specs.List.{list_any}
use Rattle.lg_node.specs.Labels.{is_label}
use Rattle.lg_node.proofs.taken.mark_operands.Given as goal

abbrev pub invariant-loop-operand : goal.invariant-loop-operand
invariant-loop-operand l = record {
  count : length l.marks ≡ length l.initial.marks;
  marks : (label : ℕ) → label < length l.initial.marks → slice_index_or l.marks label false ≡ (slice_index_or l.initial.marks label false || list_any (is_label label) (take l.operand-index l.operands));
}
