use Rattle.lg_live.proofs.LiveLemmas.{AreAfter}
use Rattle.lg_live.proofs.live.Live.of.Given as goal

abbrev pub invariant-loop-index : goal.invariant-loop-index
invariant-loop-index l = AreAfter l.points.items l.after.items l.index
