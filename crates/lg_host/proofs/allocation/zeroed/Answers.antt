use Rattle.lg_host.proofs.BlockLemmas.{fresh-heap}
use Rattle.lg_host.proofs.allocation.zeroed.Goals as goal

pub fill-requires-clause-can : goal.fill-requires-clause-can
fill-requires-clause-can g c = fresh-heap _ (g.S.Space.room c.args.mem.now) c.args.heap.now c.args.size _ c.in-Some.ensures.says.1.room c.in-Some.ensures.says.0 c.in-Some.ensures.low
