use Rattle.std.proofs.Common.{◌≡◌, ◌+◌, ◌≤◌, Some, length}
use Rattle.lg_opt.specs.Remaining.{remaining}
use Rattle.lg_opt.specs.Rewritings.{marked}
use Rattle.lg_opt.proofs.rebuilding.origin.Given as goal

abbrev pub invariant-loop-index : goal.invariant-loop-index
invariant-loop-index l = record {
  items : l.origin.items ≡ remaining (marked l.stays) (λ i. Some i) l.index;
  room : length l.stays ≤ l.origin.room + l.index;
}
