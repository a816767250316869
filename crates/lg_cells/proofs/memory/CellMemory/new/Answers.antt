use Rattle.lg_cells.proofs.PlaceLemmas.{first-bytes, first-rooms}
use Rattle.lg_cells.proofs.memory.CellMemory.new.Goals as goal

pub returns-clause-bytes : goal.returns-clause-bytes
returns-clause-bytes c = first-bytes c.args.image.now c.args.args.now c.in_ok-first_part.field-0 c.in_ok-with_capacity.field-0 c.requires.image c.requires.args c.in_ok-first_part.ensures.cells c.in_ok-with_capacity.ensures.cells

pub returns-clause-rooms : goal.returns-clause-rooms
returns-clause-rooms c = first-rooms c.args.image.now c.args.args.now c.in_ok-first_part.field-0 c.in_ok-with_capacity.field-0 c.requires.image c.requires.args c.in_ok-first_part.ensures.cells c.in_ok-with_capacity.ensures.cells
