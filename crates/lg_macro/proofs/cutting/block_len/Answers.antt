use Rattle.std.proofs.Common.{◌∙◌, sym, arith}
use Rattle.lg_macro.proofs.CutLemmas.{block_here, block_more, block_end}
use Rattle.lg_macro.proofs.cutting.block_len.Goals as goal

pub returns-then-closes_block-clause-value : goal.returns-then-closes_block-clause-value
returns-then-closes_block-clause-value c = block_here c.args.bytes.now c.loop-i.i c.loop-i-test.true (sym c.closes_block.ensures ∙ c.if-closes_block.true) ∙ c.loop-i.invariant

pub loop-i-preserved : goal.loop-i-preserved
loop-i-preserved c = block_more c.args.bytes.now c.loop-i.i c.loop-i-test.true (sym c.closes_block.ensures ∙ c.if-closes_block.false) ∙ c.loop-i.invariant

pub returns-clause-value : goal.returns-clause-value
returns-clause-value c = block_end c.args.bytes.now c.loop-i.i (omega arith) ∙ c.loop-i.invariant
