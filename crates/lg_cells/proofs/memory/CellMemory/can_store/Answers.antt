use Rattle.std.proofs.Common.{◌+◌, ◌-◌, sym, ap, ◌∙◌, arith}
use Rattle.lg_cells.specs.Cells.{is_room}
use Rattle.lg_cells.specs.Memories.{room_at}
use Rattle.lg_cells.proofs.LoadLemmas.{writable_fails, writable_goes, writable_empty}
use Rattle.lg_cells.proofs.memory.CellMemory.can_store.Goals as goal

pub returns-then-not-is_room : goal.returns-then-not-is_room
returns-then-not-is_room c = record {
  value = sym (writable_fails (room_at c.args.self.now) (c.args.address + c.loop-i.i) (c.args.width - c.loop-i.i) (c.args.address + c.loop-i.i + 1) (c.args.width - c.loop-i.i - 1) (omega arith) (omega arith) (ap is_room (sym c.cell_after.ensures.value) ∙ sym c.if-not-is_room.ensures)) ∙ c.loop-i.invariant.rooms;
  end = λ e. cc;
}

pub loop-i-preserved : goal.loop-i-preserved
loop-i-preserved c = record {
  rooms = writable_goes (room_at c.args.self.now) (c.args.address + c.loop-i.i) (c.args.width - c.loop-i.i) (c.args.address + (c.loop-i.i + 1)) (c.args.width - (c.loop-i.i + 1)) (omega arith) (omega arith) (ap is_room (sym c.cell_after.ensures.value) ∙ sym c.if-not-is_room.ensures) ∙ c.loop-i.invariant.rooms;
  end = let less = c.cell_after.ensures.end (sym c.if-not-is_room.ensures) in omega (arith, less);
}

pub returns : goal.returns
returns c = record {
  value = sym (writable_empty (room_at c.args.self.now) (c.args.address + c.loop-i.i) (c.args.width - c.loop-i.i) (omega arith)) ∙ c.loop-i.invariant.rooms;
  end = λ e. let h = c.loop-i.invariant.end in omega (arith, h);
}
