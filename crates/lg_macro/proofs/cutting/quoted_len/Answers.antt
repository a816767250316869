use Rattle.std.proofs.Common.{◌≡◌, length, ◌∙◌, sym, arith}
use Rattle.lg_macro.proofs.CutLemmas.{quoted_feed, quoted_end, quoted_more, quoted_none}
use Rattle.lg_macro.proofs.cutting.quoted_len.Goals as goal

pub returns-then-b-eq10-clause-value : goal.returns-then-b-eq10-clause-value
returns-then-b-eq10-clause-value c = quoted_feed c.args.mark c.loop-i.escaped c.args.bytes.now c.loop-i.i c.loop-i-test.true c.if-b-eq10.true ∙ c.loop-i.invariant

pub returns-then-is_free-clause-value : goal.returns-then-is_free-clause-value
returns-then-is_free-clause-value c = quoted_end c.args.mark c.loop-i.escaped c.args.bytes.now c.loop-i.i c.loop-i-test.true c.if-b-eq10.false (sym c.is_free.ensures ∙ c.if-is_free.true) ∙ c.loop-i.invariant

pub loop-i-preserved : goal.loop-i-preserved
loop-i-preserved c = quoted_more c.args.mark c.loop-i.escaped c.is_free-escaped.result c.args.bytes.now c.loop-i.i c.loop-i-test.true c.if-b-eq10.false (sym c.is_free.ensures ∙ c.if-is_free.false) c.is_free-escaped.ensures ∙ c.loop-i.invariant

pub returns-clause-value : goal.returns-clause-value
returns-clause-value c = let e : length c.args.bytes.now ≡ c.loop-i.i = omega arith in e ∙ quoted_none c.args.mark c.loop-i.escaped c.args.bytes.now c.loop-i.i (omega arith) ∙ c.loop-i.invariant
