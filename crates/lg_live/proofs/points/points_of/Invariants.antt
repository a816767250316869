use Rattle.lg_live.specs.Definitions.{feeding}
use Rattle.lg_live.proofs.PointLemmas.{AreFirst}
use Rattle.lg_live.proofs.points.points_of.Given as goal

abbrev pub invariant-loop-index : goal.invariant-loop-index
invariant-loop-index l = AreFirst (feeding l.sought) l.nodes l.shape l.points.items l.index
