use Rattle.std.proofs.Common.{sym, ap, ◌∙◌}
use Rattle.lg_tst.specs.Words.{begins_float_part}
use Rattle.lg_tst.proofs.WordLemmas.{float_found, float_further, float_end}
use Rattle.lg_tst.proofs.words.is_float_word.Goals as goal

pub returns-then-begins_float_part : goal.returns-then-begins_float_part
returns-then-begins_float_part c = float_found c.args.word.now c.loop-i.i c.loop-i.invariant c.loop-i-test.true (ap begins_float_part (sym c.behind.ensures) ∙ sym c.begins_float_part.ensures ∙ c.if-begins_float_part.true)

pub loop-i-preserved : goal.loop-i-preserved
loop-i-preserved c = float_further c.args.word.now c.loop-i.i c.loop-i.invariant c.loop-i-test.true (ap begins_float_part (sym c.behind.ensures) ∙ sym c.begins_float_part.ensures ∙ c.if-begins_float_part.false)

pub returns : goal.returns
returns c = float_end c.args.word.now c.loop-i.i c.loop-i.invariant c.loop-i-test.false
