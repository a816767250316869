use Rattle.std.proofs.Common.{◌≡◌, map}
use Rattle.std.specs.List.{range_with_len}
use Rattle.lg_node.specs.Labels.{is_taken}
use Rattle.lg_node.proofs.taken.taken_labels.Given as goal

abbrev pub invariant-loop-label : goal.invariant-loop-label
invariant-loop-label l = l.taken.items ≡ map (is_taken l.nodes) (range_with_len 0 l.label)
