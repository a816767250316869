use Rattle.std.proofs.Common.{◌≡◌, length, ap, refl, arith}
use Rattle.std.specs.Prelude.{slice_set}
use Rattle.lg_cells.specs.Cells.{Marks}
use Rattle.lg_cells.proofs.PartLemmas.{set_cells}
use Rattle.lg_cells.proofs.part.Part.set.Goals as goal

pub returns-clause-cells : goal.returns-clause-cells
returns-clause-cells c =
    let m : Marks = record { bytes = c.self.inside.bytes.items; marks = c.self.inside.marks.items; most = c.self.inside.most } in
    let marks_are : length m.marks ≡ length c.args.self.now.marks = ap (λ (x : Marks). length x.marks) c.self.view_is in
    let n : Marks = record { bytes = slice_set m.bytes c.args.at c.args.byte; marks = slice_set m.marks c.args.at 2; most = m.most } in
    rw (← c.self.view_is) (set_cells m n c.args.at c.args.byte (omega (arith, c.requires, marks_are, c.self.invariant.same_len)) (omega (arith, c.requires, marks_are)) refl refl)
