use Rattle.std.proofs.Common.{length}
use Rattle.lg_live.proofs.SearchLemmas.{arc_below}
use Rattle.lg_live.proofs.search.pass_to.Goals as goal

pub pass-requires-clause-within : goal.pass-requires-clause-within
pass-requires-clause-within c = arc_below c.args.points.now (length c.args.search.now.sets.items) c.in-Some.from c.args.to c.requires.within c.requires.point (c.requires.arc c.in-Some.from c.in-Some.is)
