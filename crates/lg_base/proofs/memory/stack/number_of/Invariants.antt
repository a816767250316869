use Rattle.std.proofs.Common.{◌≡◌, ◌+◌, ◌-◌, ◌≤◌}
use Rattle.std.specs.Prelude.{slice_index}
use Rattle.lg_base.specs.Held.{turned}
use Rattle.lg_base.specs.Spaces.{number_at}
use Rattle.lg_base.proofs.memory.stack.number_of.Given as goal

abbrev pub invariant-loop-left : goal.invariant-loop-left
invariant-loop-left l = record {
  number : l.number ≡ number_at (turned 0x100000 (slice_index l.held)) (l.at + l.left) (l.width - l.left);
  within : l.left ≤ l.width;
}

abbrev pub decreases-loop-left : goal.decreases-loop-left
decreases-loop-left l = l.left
