use Rattle.std.proofs.Common.{◌≡◌, ◌<◌, ◌≤◌, ℕ, Some}
use Rattle.std.specs.Prelude.{slice_get}
use Rattle.lg_op.specs.declared.node.Node.{Node}
use Rattle.lg_prof.proofs.tally.top_of.Given as goal

abbrev pub invariant-loop-index : goal.invariant-loop-index
invariant-loop-index l = record {
  below : (i : ℕ) (n : Node) → i < l.index → slice_get l.nodes.nodes i ≡ Some n → n.line < l.top;
  some : 0 < l.top;
  low : l.top ≤ 0x100000000;
}
