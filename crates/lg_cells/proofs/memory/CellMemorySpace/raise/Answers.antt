use Rattle.lg_cells.specs.Memories.{Marked}
use Rattle.lg_cells.proofs.PlaceLemmas.{raised_marked, raised_bytes, raised_rooms}
use Rattle.lg_cells.proofs.memory.CellMemorySpace.raise.Goals as goal

pub invariant_of-self : goal.invariant_of-self
invariant_of-self c =
    let m : Marked = record { data_size = c.self.inside.data_size; args_size = c.self.inside.args_size; mark = c.self.inside.mark; low = c.self.inside.low; stack = c.self.inside.stack } in
    raised_marked m c.grow.new.self c.args.mark c.self.invariant c.if-mark-self.true c.requires.high c.grow.ensures.cells c.grow.ensures.len c.grow.ensures.most

pub returns-then-mark-self-clause-bytes : goal.returns-then-mark-self-clause-bytes
returns-then-mark-self-clause-bytes c =
    let m : Marked = record { data_size = c.self.inside.data_size; args_size = c.self.inside.args_size; mark = c.self.inside.mark; low = c.self.inside.low; stack = c.self.inside.stack } in
    rw (← c.self.view_is) (raised_bytes m c.grow.new.self c.args.mark c.self.invariant c.if-mark-self.true c.requires.high c.grow.ensures.cells)

pub returns-then-mark-self-clause-rooms : goal.returns-then-mark-self-clause-rooms
returns-then-mark-self-clause-rooms c =
    let m : Marked = record { data_size = c.self.inside.data_size; args_size = c.self.inside.args_size; mark = c.self.inside.mark; low = c.self.inside.low; stack = c.self.inside.stack } in
    rw (← c.self.view_is) (raised_rooms m c.grow.new.self c.args.mark c.self.invariant c.if-mark-self.true c.requires.high c.grow.ensures.cells)
