use Rattle.std.proofs.Common.{◌≡◌, ℕ, ◌-◌, ap, ◌∙◌, refl}
use Rattle.lg_cells.specs.declared.cell.Cell.{Cell}
use Rattle.lg_cells.specs.Cells.{cell_of, cell_by, with_cells}
use Rattle.lg_cells.specs.Memories.{Marked}
use Rattle.lg_cells.proofs.PlaceLemmas.{filled}
use Rattle.lg_cells.proofs.memory.CellMemory.mark_stack.Goals as goal

pub returns-clause-cells : goal.returns-clause-cells
returns-clause-cells c =
    let m : Marked = record { data_size = c.self.inside.data_size; args_size = c.self.inside.args_size; mark = c.self.inside.mark; low = c.self.inside.low; stack = c.self.inside.stack } in
    let n : Marked = record m { stack = c.fill.new.self } in
    let cells : cell_of n.stack ≡ with_cells (cell_of m.stack) (0x40000000 - c.args.from - c.args.count) c.args.count (cell_by c.args.mark 0) =
    c.fill.ensures.cells ∙ ap (λ (q : ℕ → Cell). with_cells q (0x40000000 - c.args.from - c.args.count) c.args.count (cell_by c.args.mark 0)) c.reach.ensures.cells in
    rw (← c.self.view_is) (filled m n c.args.from c.args.count (cell_by c.args.mark 0) c.self.invariant c.requires.low c.requires.high record { data_same = refl; args_same = refl; mark_same = refl } refl cells)
