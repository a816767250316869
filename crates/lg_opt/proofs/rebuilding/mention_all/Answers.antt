use Rattle.std.proofs.Common.{arith}
use Rattle.lg_opt.proofs.RebuildLemmas.{mention-next, mentioned-none, mentioned-all}
use Rattle.lg_opt.proofs.rebuilding.mention_all.Goals as goal

pub loop-index-init : goal.loop-index-init
loop-index-init c = mentioned-none c.args.old.now.words c.args.list.now c.requires

pub loop-index-preserved : goal.loop-index-preserved
loop-index-preserved c = mention-next c.args.old.now.words c.loop-index.index c.loop-index.list c.label.new.self c.word.result.now c.in_ok-label.label.0 c.loop-index.invariant c.word.ensures.text c.in_ok-label.ensures.ok c.in_ok-label.ensures.number c.if-label-index.false

pub returns : goal.returns
returns c = mentioned-all c.args.old.now.words c.loop-index.index c.labels-index-end.result c.loop-index.list c.loop-index.invariant c.labels-index-end.ensures.count c.loop-index-test.false c.loop-index.auto.index-end

pub label-requires-clause-room : goal.label-requires-clause-room
label-requires-clause-room c = omega (arith, c.loop-index.invariant.count, c.loop-index-test.true, c.labels-index-end.type_inv)
