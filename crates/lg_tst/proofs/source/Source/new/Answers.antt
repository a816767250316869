use Rattle.std.proofs.Common.{subst, sym}
use Rattle.std.specs.List.{All}
use Rattle.lg_lex.specs.Tokens.{Tokens}
use Rattle.lg_tst.specs.Streams.{IsToken}
use Rattle.lg_tst.proofs.TokenForms.{tokens_of-are}
use Rattle.lg_tst.proofs.source.Source.new.Goals as goal

pub invariant_of-result : goal.invariant_of-result
invariant_of-result c = subst (λ (tokens : Tokens). All (IsToken c.args.text.now) tokens.0) (sym c.new.ensures.tokens) (tokens_of-are c.args.text.now)
