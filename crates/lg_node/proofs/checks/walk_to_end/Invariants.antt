use Rattle.std.proofs.Common.{◌≡◌}
use Rattle.lg_node.specs.Checks.{NoneBefore}
use Rattle.lg_node.specs.Walks.{walk_at}
use Rattle.lg_node.proofs.checks.walk_to_end.Given as goal

abbrev pub invariant-loop-index : goal.invariant-loop-index
invariant-loop-index l = record {
  walk : l.walk ≡ walk_at l.nodes.nodes l.index;
  none : NoneBefore l.nodes l.index;
}
