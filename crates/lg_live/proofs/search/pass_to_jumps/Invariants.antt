use Rattle.lg_live.specs.Searches.{state_of, Grows, IsSound}
use Rattle.lg_live.proofs.ChainLemmas.{IsPassing, bound}
use Rattle.lg_live.proofs.search.pass_to_jumps.Given as goal

abbrev pub invariant-loop-next : goal.invariant-loop-next
invariant-loop-next l = record {
  grows : Grows (state_of l.initial.search) (state_of l.search);
  sound : IsSound l.points (state_of l.search);
  passing : IsPassing l.points l.to l.set (state_of l.search) l.next;
}

abbrev pub decreases-loop-next : goal.decreases-loop-next
decreases-loop-next l = bound l.next
