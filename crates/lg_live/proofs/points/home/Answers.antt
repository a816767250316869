use Rattle.std.proofs.Common.{sym}
use Rattle.lg_live.proofs.PointLemmas.{no_home, some_home}
use Rattle.lg_live.proofs.points.home.Goals as goal

pub returns-in-Some : goal.returns-in-Some
returns-in-Some c = some_home c.args.nodes.now c.args.shape.now c.requires c.args.index c.in-Some.function c.entry.result (sym c.in-Some.ensures.value) c.entry.ensures

pub returns-in-None : goal.returns-in-None
returns-in-None c = no_home c.args.nodes.now c.args.shape.now c.requires c.args.index (sym c.in-None.ensures.value)
