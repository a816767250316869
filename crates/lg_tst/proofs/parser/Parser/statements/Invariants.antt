use Rattle.std.proofs.Common.{length}
use Rattle.lg_tst.proofs.TextLemmas.{IsLeft}
use Rattle.lg_tst.proofs.parser.Parser.statements.Given as goal

abbrev pub decreases-loop-token : goal.decreases-loop-token
decreases-loop-token l = length l.self.source.left

abbrev pub invariant-loop-token : goal.invariant-loop-token
invariant-loop-token l = IsLeft l.self l.fn.self
