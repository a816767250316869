use Rattle.std.proofs.Common.{arith}
use Rattle.lg_asm.proofs.OutwardLemmas.{marked-all}
use Rattle.lg_asm.proofs.saves.marks_of.Goals as goal

pub returns : goal.returns
returns c = marked-all c.args.nodes.now c.args.entries.now c.loop-index.marks.items c.loop-index.index c.what_holds.ensures.placed c.loop-index.invariant
    (omega (arith, c.loop-index-test.false, c.loop-index.auto.index-end, c.len.ensures))
