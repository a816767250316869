use Rattle.std.proofs.Common.{◌≡◌, length}
use Rattle.lg_tst.specs.Units.{more_values}
use Rattle.lg_tst.proofs.parser.Parser.more_values.Given as goal

abbrev pub decreases-loop-token : goal.decreases-loop-token
decreases-loop-token l = length l.self.source.left

abbrev pub invariant-loop-token : goal.invariant-loop-token
invariant-loop-token l = more_values l.size l.self.source.left l.self ≡ more_values l.size l.fn.self.source.left l.fn.self
