use Rattle.std.proofs.Common.{◌≡◌}
use Rattle.lg_dead.specs.Lists.{AreFolded, AreAfter}
use Rattle.lg_dead.proofs.list.push_folded.Given as goal

abbrev pub invariant-loop-index : goal.invariant-loop-index
invariant-loop-index l = record {
  list : l.list ≡ record l.fn.list { nodes = l.list.nodes };
  folded : AreFolded l.nodes l.list.nodes l.index;
  known : AreAfter l.nodes l.list.nodes l.index l.known;
}
