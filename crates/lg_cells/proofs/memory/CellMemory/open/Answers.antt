use Rattle.std.proofs.Common.{refl}
use Rattle.lg_cells.specs.declared.cell.Cell.TheVariants.{Fresh}
use Rattle.lg_cells.proofs.PlaceLemmas.{fills_bytes, fills_rooms}
use Rattle.lg_cells.proofs.memory.CellMemory.open.Goals as goal

pub returns-clause-bytes : goal.returns-clause-bytes
returns-clause-bytes c = fills_bytes c.args.self.now c.mark_stack.new.self c.args.from c.args.count Fresh refl c.mark_stack.ensures.cells

pub returns-clause-rooms : goal.returns-clause-rooms
returns-clause-rooms c = fills_rooms c.args.self.now c.mark_stack.new.self c.args.from c.args.count Fresh c.mark_stack.ensures.cells
