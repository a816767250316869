use Rattle.std.proofs.Common.{ℕ, ◌<◌, ◌^◌, get_or}
use Rattle.lg_op.specs.declared.node.Node.{Node}
use Rattle.lg_list.proofs.laws.lines_are_small.Given as goal

abbrev pub invariant-loop-index : goal.invariant-loop-index
invariant-loop-index l = (k : ℕ) (d : Node) → k < l.index → (get_or l.nodes.nodes k d).line < 2 ^ 32
