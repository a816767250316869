use Rattle.std.proofs.Common.{◌≡◌, ◌≤◌, ℕ, length, Some, vec_capacity}
use Rattle.std.specs.Prelude.{slice_get}
use Rattle.lg_op.specs.declared.node.Node.{Node}
use Rattle.lg_meaning.specs.Texts.{text}
use Rattle.lg_mean.specs.declared.resolved.ResolvedNode.{ResolvedNode}
use Rattle.lg_mean.specs.Resolved.{IsResolved}
use Rattle.lg_mean.proofs.labels.resolved_nodes.Given as goal

abbrev pub invariant-loop-index : goal.invariant-loop-index
invariant-loop-index l = record {
  len : length l.found.items ≡ l.index;
  room : length l.nodes.nodes ≤ vec_capacity l.found;
  each : (i : ℕ) (n : Node) (q : ResolvedNode) → slice_get l.nodes.nodes i ≡ Some n → slice_get l.found.items i ≡ Some q → IsResolved (text l.nodes l.shape l.addresses) n q;
}
