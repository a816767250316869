use Rattle.lg_lex.proofs.TokenLemmas.{tokens_of-order, length-tokens_of}
use Rattle.lg_lex.proofs.ExpressionTokenLemmas.{tokens_of-expressions}
use Rattle.lg_lex.proofs.lexer.Lexer.new.Goals as goal

pub returns-clause-order : goal.returns-clause-order
returns-clause-order c = tokens_of-order c.args.text.now

pub returns-clause-few : goal.returns-clause-few
returns-clause-few c = length-tokens_of c.args.text.now

pub returns-clause-expressions : goal.returns-clause-expressions
returns-clause-expressions c = tokens_of-expressions c.args.text.now
