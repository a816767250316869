use Rattle.std.proofs.Common.{sym, ◌∙◌}
use Rattle.lg_lex.proofs.ByteLemmas.{eqb_other}
use Rattle.lg_lex.proofs.PlainLemmas.{decimal_ends, zero_ends}
use Rattle.lg_lex.proofs.numbers.decimal.Goals as goal

pub returns-then-not-is_ascii_digit : goal.returns-then-not-is_ascii_digit
returns-then-not-is_ascii_digit c =
    let zero = eqb_other _ 48 (λ e. c.if-byte_at-eq48.false (c.byte_at.ensures ∙ e)) in
    record { value = decimal_ends c.args.bytes.now c.loop-i.i c.loop-i.value c.ended-then-not-is_ascii_digit.result c.loop-i-test.true c.requires zero c.loop-i.invariant c.ended-then-not-is_ascii_digit.ensures }

pub returns-then-byte_at-eq48 : goal.returns-then-byte_at-eq48
returns-then-byte_at-eq48 c = record { value = zero_ends c.args.bytes.now c.ended.result (sym c.byte_at.ensures ∙ c.if-byte_at-eq48.true) (rw c.byte_at-then-byte_at-eq48.ensures at c.ended.ensures) }
