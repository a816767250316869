use Rattle.std.proofs.Common.{length}
use Rattle.lg_explain.specs.Misfits.{first_misfit}
use Rattle.lg_explain.proofs.MisfitLemmas.{IsLeft}
use Rattle.lg_explain.proofs.misfit.first_misfit.Given as goal

abbrev pub decreases-loop-token : goal.decreases-loop-token
decreases-loop-token l = length l.lexer.0

abbrev pub invariant-loop-token : goal.invariant-loop-token
invariant-loop-token l = IsLeft l.text (first_misfit l.text) l.lexer l.part l.left l.rest l.word l.before
