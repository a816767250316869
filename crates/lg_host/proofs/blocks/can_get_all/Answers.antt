use Rattle.std.proofs.Common.{sym, ◌∙◌, arith}
use Rattle.lg_host.proofs.BlockLemmas.{mapped-none, mapped-some, mapped-end}
use Rattle.lg_host.proofs.blocks.can_get_all.Goals as goal

pub returns-in_default : goal.returns-in_default
returns-in_default g c = sym (c.loop-i.invariant ∙ mapped-none (g.S.Space.byte_of c.args.mem.now) c.args.from c.args.count c.loop-i.i (omega arith) c.in_default.ensures)

pub loop-i-preserved : goal.loop-i-preserved
loop-i-preserved g c = c.loop-i.invariant ∙ mapped-some (g.S.Space.byte_of c.args.mem.now) c.args.from c.args.count c.loop-i.i c.in-Some._byte (omega arith) c.in-Some.ensures

pub returns : goal.returns
returns g c = sym (c.loop-i.invariant ∙ mapped-end (g.S.Space.byte_of c.args.mem.now) _ c.args.count c.loop-i.i (omega arith))
