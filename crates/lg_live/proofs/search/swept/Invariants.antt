use Rattle.std.proofs.Common.{◌-◌, length}
use Rattle.lg_live.specs.Searches.{state_of, IsSwept}
use Rattle.lg_live.proofs.search.swept.Given as goal

abbrev pub invariant-loop-done : goal.invariant-loop-done
invariant-loop-done l = IsSwept l.points l.count (length l.points - l.done) (state_of l.search)
