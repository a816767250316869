use Rattle.std.proofs.Common.{◌<◌, ◌^◌, arith}
use Rattle.lg_list.proofs.AllLemmas.{All-next}
use Rattle.lg_list.proofs.laws.lines_are_small.Goals as goal

pub loop-index-preserved : goal.loop-index-preserved
loop-index-preserved c = All-next (λ n. n.line < 2 ^ 32) c.args.nodes.now.nodes c.loop-index.index c.node.result c.loop-index.invariant c.node.ensures.node (omega arith)
