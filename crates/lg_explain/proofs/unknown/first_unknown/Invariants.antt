use Rattle.std.proofs.Common.{length}
use Rattle.lg_explain.specs.Unknown.{first_unknown}
use Rattle.lg_explain.proofs.UnknownLemmas.{IsLeft}
use Rattle.lg_explain.proofs.unknown.first_unknown.Given as goal

abbrev pub decreases-loop-token : goal.decreases-loop-token
decreases-loop-token l = length l.lexer.0

abbrev pub invariant-loop-token : goal.invariant-loop-token
invariant-loop-token l = IsLeft l.text (first_unknown l.text) l.lexer l.part l.forms l.rest
