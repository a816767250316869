use Rattle.std.proofs.Common.{◌/◌, length, ◌∙◌, sym, arith}
use Rattle.lg_base.proofs.CountLemmas.{one_more, no_more, all_counted}
use Rattle.lg_base.proofs.args.argument_count.Goals as goal

pub loop-count-preserved : goal.loop-count-preserved
loop-count-preserved c =
    let i = c.loop-count.invariant in
    record {
      low = omega (arith, c.loop-count-test.true);
      rest = one_more c.args.args.now (length c.args.args.now / 8) c.loop-count.count c.loop-count-test.true (λ e. c.if-word_at-ne0.true (c.word_at.ensures ∙ e)) ∙ i.rest;
    }

pub returns-else-word_at-ne0 : goal.returns-else-word_at-ne0
returns-else-word_at-ne0 c =
    no_more c.args.args.now (length c.args.args.now / 8) c.loop-count.count c.loop-count-test.true (sym c.word_at.ensures ∙ c.if-word_at-ne0.false) ∙ c.loop-count.invariant.rest

pub returns-after-loop-count : goal.returns-after-loop-count
returns-after-loop-count c =
    all_counted c.args.args.now (length c.args.args.now / 8) c.loop-count.count c.loop-count-test.false ∙ c.loop-count.invariant.rest
