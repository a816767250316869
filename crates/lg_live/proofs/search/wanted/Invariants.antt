use Rattle.std.proofs.Common.{◌≤◌, ◌-◌, length}
use Rattle.lg_live.specs.Searches.{state_of, weight, IsSearching}
use Rattle.lg_live.proofs.search.wanted.Given as goal

abbrev pub invariant-loop-from : goal.invariant-loop-from
invariant-loop-from l = record {
  searching : IsSearching l.points l.count l.from (state_of l.search);
  within : l.from ≤ length l.search.queue.items;
}

abbrev pub decreases-loop-from : goal.decreases-loop-from
decreases-loop-from l = weight (state_of l.search) - l.from
