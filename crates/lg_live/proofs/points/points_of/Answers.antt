use Rattle.std.proofs.Common.{sym}
use Rattle.lg_live.specs.Definitions.{feeding}
use Rattle.lg_live.proofs.PointLemmas.{first_more}
use Rattle.lg_live.proofs.points.points_of.Goals as goal

pub loop-index-preserved : goal.loop-index-preserved
loop-index-preserved c = first_more (feeding c.args.sought) c.args.nodes.now c.args.shape.now c.loop-index.points.items c.loop-index.index c.node-node.result c.point.result c.push.new.self.items c.loop-index.invariant (sym c.node-node.ensures.node) c.point.ensures c.in_ok-push.ensures.items
