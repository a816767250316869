use Rattle.std.proofs.Common.{◌-◌, ◌<◌, suc, length, refl, ap, ◌∙◌, arith, sym}
use Rattle.std.proofs.lemmas.List.{length-drop}
use Rattle.lg_lex.specs.Blanks.{blank_at, after_blanks}
use Rattle.lg_lex.proofs.BlankLemmas.{blanks_more, blanks_end}
use Rattle.lg_lex.proofs.blanks.after_blanks.Goals as goal

pub blanks-init : goal.blanks-init
unfolding after_blanks
blanks-init c = (omega arith, omega arith, (suc (length c.args.bytes.now), omega arith, refl))

pub blanks-preserved : goal.blanks-preserved
blanks-preserved c =
    let rest = c.blanks.invariant.2 in
    let is = sym (c.blank.ensures.value ∙ ap blank_at c.behind.ensures) ∙ c.in-Some.is in
    let len = ap length c.behind.ensures ∙ length-drop c.blanks.at c.args.bytes.now in
    let inside = c.in-Some.ensures.inside in
    let left : 0 < rest.0 = omega arith in
    (omega arith, omega arith, (rest.0 - 1, omega arith, blanks_more rest.0 c.args.bytes.now c.blanks.at c.in-Some.n left is ∙ rest.2))

pub returns-clause-value : goal.returns-clause-value
returns-clause-value c =
    let is = sym (c.blank.ensures.value ∙ ap blank_at c.behind.ensures) ∙ c.in_default.is in
    let rest = c.blanks.invariant.2 in
    sym (blanks_end rest.0 c.args.bytes.now c.blanks.at is) ∙ rest.2
