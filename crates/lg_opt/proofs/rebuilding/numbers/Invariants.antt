use Rattle.std.proofs.Common.{◌≡◌, ◌<◌, ◌≤◌, ℕ, length}
use Rattle.std.specs.Prelude.{slice_index}
use Rattle.lg_opt.specs.Remaining.{new_number}
use Rattle.lg_opt.specs.Rewritings.{marked}
use Rattle.lg_opt.proofs.rebuilding.numbers.Given as goal

abbrev pub invariant-loop-index : goal.invariant-loop-index
invariant-loop-index l = record {
  count : length l.table.items ≡ l.index;
  numbers : (k : ℕ) → k < l.index → slice_index l.table.items k ≡ new_number (marked l.stays) k;
  here : l.number ≡ new_number (marked l.stays) l.index;
  few : l.number ≤ l.index;
}
