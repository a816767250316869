use Rattle.lg_asm.proofs.CountLemmas.{AreCounted}
use Rattle.lg_asm.proofs.counts.counted.Given as goal

abbrev pub invariant-nodes : goal.invariant-nodes
invariant-nodes l = AreCounted l.target l.nodes l.live l.list.items l.passed l.saved l.index
