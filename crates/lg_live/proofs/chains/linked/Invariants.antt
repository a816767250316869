use Rattle.lg_live.proofs.ChainLemmas.{AreLinked}
use Rattle.lg_live.proofs.chains.linked.Given as goal

abbrev pub invariant-loop-index : goal.invariant-loop-index
invariant-loop-index l = AreLinked l.points l.count l.index l.last.items l.earlier.items
