use Rattle.std.proofs.Common.{◌+◌, get_or, sym, ap, ◌∙◌, arith}
use Rattle.std.proofs.lemmas.List.{take_all}
use Rattle.lg_lex.specs.Numbers.{with_digit, digits_value, narrowed}
use Rattle.lg_lex.proofs.DigitLemmas.{narrowed-fits, narrowed-wide, narrowed_some, narrowed_none, digits_value_more, first_digits_below}
use Rattle.lg_lex.proofs.numbers.digits_value.Goals as goal

pub returns-in-None : goal.returns-in-None
returns-in-None c =
    let digits = c.args.digits.now in
    let i = c.loop-b.b-index in
    let wide = narrowed_none _ (sym c.with_digit.ensures ∙ c.in-None.is) in
    let more = digits_value_more c.args.radix digits i c.loop-b-test.true in
    let below = first_digits_below c.args.radix digits (i + 1) c.requires in
    let same = ap (λ n. with_digit c.args.radix n (get_or digits i 0)) c.loop-b.invariant.0 in
    sym (narrowed-wide _ (omega arith))

pub loop-b-preserved : goal.loop-b-preserved
loop-b-preserved c =
    let digits = c.args.digits.now in
    let fits = narrowed_some _ _ (sym c.with_digit.ensures ∙ c.in-Some.is) in
    let more = digits_value_more c.args.radix digits c.loop-b.b-index c.loop-b-test.true in
    let same = ap (λ n. with_digit c.args.radix n (get_or digits c.loop-b.b-index 0)) c.loop-b.invariant.0 in
    (omega arith, omega arith)

pub returns : goal.returns
returns c =
    let all = ap (digits_value c.args.radix) (take_all c.loop-b.b-index c.args.digits.now c.loop-b-test.false) in
    sym (narrowed-fits _ c.loop-b.invariant.1) ∙ ap narrowed (c.loop-b.invariant.0 ∙ all)
