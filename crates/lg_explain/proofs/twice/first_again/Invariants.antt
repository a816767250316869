use Rattle.std.proofs.Common.{length}
use Rattle.lg_explain.specs.Twice.{made_twice}
use Rattle.lg_explain.proofs.TwiceLemmas.{IsLeft}
use Rattle.lg_explain.proofs.twice.first_again.Given as goal

abbrev pub decreases-loop-token : goal.decreases-loop-token
decreases-loop-token l = length l.lexer.0

abbrev pub invariant-loop-token : goal.invariant-loop-token
invariant-loop-token l = IsLeft l.text (made_twice l.text) l.lexer l.labels l.names l.forms
