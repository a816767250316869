use Rattle.std.proofs.Common.{ap, ◌∙◌}
use Rattle.lg_lex.specs.Fronts.{literal_token}
use Rattle.lg_lex.specs.declared.token.TokenKind.TheVariants.{Number}
use Rattle.lg_lex.proofs.PlainLemmas.{number_front}
use Rattle.lg_lex.proofs.fronts.plain_number.Goals as goal

pub returns-clause-value : goal.returns-clause-value
returns-clause-value c fresh = number_front fresh c.args.bytes.now c.requires ∙ ap (literal_token Number) c.in_ok-found.ensures.value
