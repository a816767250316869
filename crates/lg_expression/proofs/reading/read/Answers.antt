use Rattle.std.proofs.Common.{List, subst, sym, refl}
use Rattle.lg_expression.specs.Grammar.{Spells, comparison}
use Rattle.lg_expression.specs.declared.reading.ReadError.TheVariants.{NoExpression, NumberTooWide, TooLarge}
use Rattle.lg_expression.specs.declared.step.Step.{Step}
use Rattle.lg_expression.proofs.ReadLemmas.{is_large, read_spelled, same_error, says_large, says_none, says_wide}
use Rattle.lg_expression.proofs.reading.read.Goals as goal

pub returns-in-Some-clause-spelled : goal.returns-in-Some-clause-spelled
returns-in-Some-clause-spelled c =
    let P : List Step → Type 0 = λ steps. Spells comparison c.args.text.now steps in
    subst P (sym c.in-Some.ensures.some) (read_spelled c.args.text.now c.in-Ok.steps.items c.in-Ok.ensures.ok)

pub returns-in-None-clause-large : goal.returns-in-None-clause-large
returns-in-None-clause-large c = λ e. is_large c.args.text.now c.in-Ok.steps.items c.in-Ok.ensures.ok (λ h. c.in-None.ensures.none h refl)

pub returns-in-Err-clause-none : goal.returns-in-Err-clause-none
returns-in-Err-clause-none c = λ e. says_none c.args.text.now c.in-Err.error c.in-Err.ensures.err (same_error c.in-Err.error NoExpression e)

pub returns-in-Err-clause-wide : goal.returns-in-Err-clause-wide
returns-in-Err-clause-wide c = λ e. says_wide c.args.text.now c.in-Err.error c.in-Err.ensures.err (same_error c.in-Err.error NumberTooWide e)

pub returns-in-Err-clause-large : goal.returns-in-Err-clause-large
returns-in-Err-clause-large c = λ e. says_large c.args.text.now c.in-Err.error c.in-Err.ensures.err (same_error c.in-Err.error TooLarge e)
