use Rattle.std.proofs.Common.{◌≡◌, ◌+◌, ◌-◌, ◌≤◌, ◌^◌}
use Rattle.lg_cells.specs.Memories.{room_at, writable}
use Rattle.lg_cells.proofs.memory.CellMemory.can_store.Given as goal

abbrev pub invariant-loop-i : goal.invariant-loop-i
invariant-loop-i l = record {
  rooms : writable (room_at l.self) (l.address + l.i) (l.width - l.i) ≡ writable (room_at l.self) l.address l.width;
  end : l.address + l.i ≤ 2 ^ 64;
}
