use Rattle.std.proofs.Common.{◌≡◌, length}
use Rattle.lg_expression.specs.Reading.{released, shown}
use Rattle.lg_expression.proofs.reading.Reader.release.Given as goal

abbrev pub invariant-waiting : goal.invariant-waiting
invariant-waiting l = released l.least (shown l.self) ≡ released l.least (shown l.fn.self)

abbrev pub decreases-waiting : goal.decreases-waiting
decreases-waiting l = length l.self.waiting.items
