use Rattle.std.proofs.Common.{subst, ap, sym, ◌∙◌, get_or}
use Rattle.std.specs.Char.{is_ascii_digit}
use Rattle.lg_base.specs.WordBytes.{is_word_byte}
use Rattle.lg_lex.specs.Lines.{IsSolid}
use Rattle.lg_lex.proofs.PlainLemmas.{starts, word_some, word_front, word_solid, register_front, register_solid}
use Rattle.lg_lex.proofs.fronts.plain_front.Goals as goal

pub word-requires : goal.word-requires
word-requires c =
    let goes = ap is_word_byte (sym c.byte_at-b.ensures) ∙ sym c.goes_on.ensures ∙ c.if-goes_on.true in
    let other = ap is_ascii_digit (sym c.byte_at-b.ensures) ∙ sym c.is_ascii_digit.ensures.value ∙ c.if-is_ascii_digit.false in
    word_some c.args.bytes.now (starts (get_or c.args.bytes.now 0 0) goes other)

pub returns-else-is_ascii_digit-clause-value : goal.returns-else-is_ascii_digit-clause-value
returns-else-is_ascii_digit-clause-value c fresh =
    let goes = ap is_word_byte (sym c.byte_at-b.ensures) ∙ sym c.goes_on.ensures ∙ c.if-goes_on.true in
    let other = ap is_ascii_digit (sym c.byte_at-b.ensures) ∙ sym c.is_ascii_digit.ensures.value ∙ c.if-is_ascii_digit.false in
    word_front fresh c.args.bytes.now (starts (get_or c.args.bytes.now 0 0) goes other) ∙ sym c.word.ensures.value

pub returns-else-is_ascii_digit-clause-solid : goal.returns-else-is_ascii_digit-clause-solid
returns-else-is_ascii_digit-clause-solid c = subst IsSolid (sym c.word.ensures.value) (word_solid c.args.bytes.now)

pub returns-then-b-eq37-clause-value : goal.returns-then-b-eq37-clause-value
returns-then-b-eq37-clause-value c fresh =
    register_front fresh c.args.bytes.now (sym c.byte_at-b.ensures ∙ c.if-b-eq37.true) ∙ sym c.register.ensures

pub returns-then-b-eq37-clause-solid : goal.returns-then-b-eq37-clause-solid
returns-then-b-eq37-clause-solid c = subst IsSolid (sym c.register.ensures) (register_solid c.args.bytes.now)
