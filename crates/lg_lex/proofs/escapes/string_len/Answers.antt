use Rattle.std.proofs.Common.{◌-◌, ◌<◌, length, refl, ap, ◌∙◌, arith, sym}
use Rattle.std.proofs.lemmas.List.{length-drop}
use Rattle.lg_lex.specs.Bytes.{further}
use Rattle.lg_lex.specs.Escapes.{text_byte_at, string_at}
use Rattle.lg_lex.proofs.StringLemmas.{string_rest_more, string_rest_end, string_rest_bad}
use Rattle.lg_lex.proofs.escapes.string_len.Goals as goal

pub units-init : goal.units-init
unfolding string_at
units-init c = (omega arith, omega arith, (length c.args.bytes.now, omega arith, refl))

pub units-preserved : goal.units-preserved
units-preserved c =
    let bytes = c.args.bytes.now in
    let rest = c.units.invariant.2 in
    let is = sym (c.text_byte.ensures.value ∙ ap text_byte_at c.behind.ensures) ∙ c.in-Some.is in
    let len = ap length c.behind.ensures ∙ length-drop c.units.at bytes in
    let inside = c.in-Some.ensures.inside in
    let left : 0 < rest.0 = omega arith in
    (omega arith, omega arith, (rest.0 - 1, omega arith, string_rest_more rest.0 bytes c.units.at c.in-Some.found left (rw (← c.byte_at.ensures) c.units-test.true) is ∙ rest.2))

pub returns-in-None-clause-value : goal.returns-in-None-clause-value
returns-in-None-clause-value c =
    let rest = c.units.invariant.2 in
    let is = sym (c.text_byte.ensures.value ∙ ap text_byte_at c.behind.ensures) ∙ c.in-None.is in
    ap (further c.units.at) (sym (string_rest_bad rest.0 c.args.bytes.now c.units.at (rw (← c.byte_at.ensures) c.units-test.true) is)) ∙ rest.2

pub returns-clause-value : goal.returns-clause-value
returns-clause-value c =
    let rest = c.units.invariant.2 in
    ap (further c.units.at) (sym (string_rest_end rest.0 c.args.bytes.now c.units.at rest.1 (sym c.byte_at.ensures ∙ c.units-test.false))) ∙ rest.2
