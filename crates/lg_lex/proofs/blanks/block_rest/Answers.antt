use Rattle.std.proofs.Common.{◌∙◌, sym}
use Rattle.lg_lex.proofs.BlankLemmas.{block_rest_end, block_rest_more, block_rest_none}
use Rattle.lg_lex.proofs.blanks.block_rest.Goals as goal

pub returns-then-closes_block-clause-value : goal.returns-then-closes_block-clause-value
returns-then-closes_block-clause-value c =
    sym (block_rest_end c.args.bytes.now c.loop-i.i c.loop-i-test.true (sym c.closes_block.ensures ∙ c.if-closes_block.true)) ∙ c.loop-i.invariant

pub loop-i-preserved : goal.loop-i-preserved
loop-i-preserved c =
    block_rest_more c.args.bytes.now c.loop-i.i c.loop-i-test.true (sym c.closes_block.ensures ∙ c.if-closes_block.false) ∙ c.loop-i.invariant

pub returns-clause-value : goal.returns-clause-value
returns-clause-value c = sym (block_rest_none c.args.bytes.now c.loop-i.i c.loop-i-test.false) ∙ c.loop-i.invariant
