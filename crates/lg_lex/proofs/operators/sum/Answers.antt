use Rattle.std.proofs.Common.{rules}
use Rattle.std.proofs.lemmas.Int.{wraps}
use Rattle.lg_lex.proofs.operators.sum.Goals as goal

pub returns : goal.returns
returns c = search (rules, wraps)
