use Rattle.std.proofs.Common.{sym, ◌∙◌, arith}
use Rattle.lg_host.proofs.BlockLemmas.{can_write-no, can_write-yes, can_write-end}
use Rattle.lg_host.proofs.blocks.can_put_all.Goals as goal

pub returns-then-not-can_put : goal.returns-then-not-can_put
returns-then-not-can_put g c = sym (c.loop-i.invariant ∙ can_write-no (g.S.Space.room c.args.mem.now) c.args.from c.args.count c.loop-i.i (omega arith) (sym c.can_put.ensures ∙ c.if-not-can_put.true))

pub loop-i-preserved : goal.loop-i-preserved
loop-i-preserved g c = c.loop-i.invariant ∙ can_write-yes (g.S.Space.room c.args.mem.now) c.args.from c.args.count c.loop-i.i (omega arith) (sym c.can_put.ensures ∙ c.if-not-can_put.false)

pub returns : goal.returns
returns g c = sym (c.loop-i.invariant ∙ can_write-end (g.S.Space.room c.args.mem.now) _ c.args.count c.loop-i.i (omega arith))
