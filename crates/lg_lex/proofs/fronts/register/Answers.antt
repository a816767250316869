use Rattle.std.proofs.Common.{sym, ◌∙◌}
use Rattle.lg_lex.proofs.PlainLemmas.{short_register}
use Rattle.lg_lex.proofs.fronts.register.Goals as goal

pub returns-in-len4-up : goal.returns-in-len4-up
returns-in-len4-up c =
    short_register c.args.bytes.now c.in-len4-up.len_at_least (sym c.is_ascii_lowercase.ensures.value ∙ c.if-is_ascii_lowercase.true) (sym c.goes_on.ensures ∙ c.if-goes_on.true) (sym c.goes_on-then-goes_on.ensures ∙ c.if-not-goes_on.true)
