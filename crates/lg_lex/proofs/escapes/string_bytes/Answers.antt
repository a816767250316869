use Rattle.std.proofs.Common.{get_or, ap, ◌∙◌, sym}
use Rattle.lg_lex.specs.Escapes.{text_byte_at}
use Rattle.lg_lex.proofs.StringLemmas.{string_left_end, string_left_bad, string_left_more}
use Rattle.lg_lex.proofs.escapes.string_bytes.Goals as goal

pub returns-then-byte_at-eq34-clause-end : goal.returns-then-byte_at-eq34-clause-end
returns-then-byte_at-eq34-clause-end c =
    string_left_end c.args.slice.now c.args.at.now _ c.max-place.ensures (ap (λ bytes. get_or bytes 0 0) (sym c.behind-rest.ensures) ∙ sym c.byte_at.ensures ∙ c.if-byte_at-eq34.true)

pub returns-in_err-found-clause-end : goal.returns-in_err-found-clause-end
returns-in_err-found-clause-end c =
    let is = sym (c.text_byte.ensures.value ∙ ap text_byte_at c.behind-rest.ensures) ∙ c.in_err-found.was in
    rw c.from_residual.ensures (string_left_bad c.args.slice.now c.args.at.now _ c.max-place.ensures is)

pub returns-clause-bytes : goal.returns-clause-bytes
returns-clause-bytes c =
    let is = sym (c.text_byte.ensures.value ∙ ap text_byte_at c.behind-rest.ensures) ∙ c.in_ok-found.was in
    let byte = c.byte_at.ensures ∙ ap (λ bytes. get_or bytes 0 0) c.behind-rest.ensures in
    string_left_more c.args.slice.now c.args.at.now _ c.in_ok-found.found c.max-place.ensures (rw (← byte) c.if-byte_at-eq34.false) is
