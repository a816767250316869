use Rattle.std.proofs.Common.{ap, sym, ◌∙◌, arith}
use Rattle.lg_node.specs.declared.walk.Walk.{Walk}
use Rattle.lg_node.specs.Walks.{walk_after}
use Rattle.lg_node.proofs.WalkLemmas.{walk_start, walk_on}
use Rattle.lg_node.proofs.LimitLemmas.{none_on, limits_at}
use Rattle.lg_node.proofs.checks.walk_to_end.Goals as goal

pub loop-index-init : goal.loop-index-init
loop-index-init c = record {
  walk = c.new-walk.ensures ∙ sym (walk_start c.args.nodes.now.nodes);
  none = λ j h. absurd (omega arith);
}

pub pass_node-requires-clause-limits : goal.pass_node-requires-clause-limits
pass_node-requires-clause-limits c = rw c.loop-index.invariant.walk (limits_at c.args.nodes.now c.loop-index.index (omega arith) c.loop-index.invariant.none)

pub loop-index-preserved : goal.loop-index-preserved
loop-index-preserved c = record {
  walk = c.in_ok-pass_node.ensures.walk ∙ ap (λ (w : Walk). walk_after w c.loop-index.index c.node_at-node.result.now) c.loop-index.invariant.walk ∙ walk_on c.args.nodes.now.nodes c.loop-index.index c.node_at-node.result.now (sym c.node_at-node.ensures.node);
  none = none_on c.args.nodes.now c.loop-index.index c.loop-index.invariant.none c.in_ok-pass_node.ensures.none;
}
