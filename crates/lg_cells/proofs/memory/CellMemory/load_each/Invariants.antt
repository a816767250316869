use Rattle.std.proofs.Common.{◌≡◌, ◌+◌, ◌-◌, ◌^◌, ◌<◌, ◌≤◌, Some}
use Rattle.lg_base.specs.Spaces.{loaded}
use Rattle.lg_cells.specs.Memories.{byte_at}
use Rattle.lg_cells.proofs.memory.CellMemory.load_each.Given as goal

abbrev pub invariant-loop-left : goal.invariant-loop-left
invariant-loop-left l = record {
  number : loaded (byte_at l.self) (l.address + l.left) (l.width - l.left) ≡ Some l.value;
  bound : l.value < 256 ^ (l.width - l.left);
  below : l.left ≤ l.width;
}

abbrev pub decreases-loop-left : goal.decreases-loop-left
decreases-loop-left l = l.left
