use Rattle.std.proofs.Common.{◌≡◌, ◌+◌, ◌-◌}
use Rattle.lg_base.specs.Spaces.{stored}
use Rattle.lg_cells.specs.Memories.{byte_at, room_at, IsSameSize}
use Rattle.lg_cells.proofs.memory.CellMemory.store.Given as goal

abbrev pub invariant-loop-i : goal.invariant-loop-i
invariant-loop-i l = record {
  bytes : stored (byte_at l.self) (l.address + l.i) (l.width - l.i) l.rest ≡ stored (byte_at l.initial.self) l.address l.width l.initial.rest;
  rooms : room_at l.self ≡ room_at l.initial.self;
  sizes : IsSameSize l.initial.self l.self;
}
