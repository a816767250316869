use Rattle.std.proofs.Common.{◌≡◌, ℕ, ap, ◌∙◌, refl, List}
use Rattle.std.specs.Prelude.{slice_index}
use Rattle.std.proofs.lemmas.List.{with_items_is}
use Rattle.std.specs.Vec.{with_items}
use Rattle.lg_cells.specs.Cells.{Marks, with_marks}
use Rattle.lg_cells.proofs.PartLemmas.{marked_cells}
use Rattle.lg_cells.proofs.part.Part.fill.Goals as goal

pub returns-clause-cells : goal.returns-clause-cells
returns-clause-cells c =
    let m : Marks = record { bytes = c.self.inside.bytes.items; marks = c.self.inside.marks.items; most = c.self.inside.most } in
    let same = with_items_is c.self.inside.marks c.mark_places.new.marks (c.mark_places.auto.marks ∙ c.deref_mut.ensures.len) in
    let marked : slice_index c.mark_places.new.marks ≡ with_marks (slice_index m.marks) c.args.from c.args.count c.args.mark = rw c.deref_mut.ensures.value at c.mark_places.ensures in
    let n : Marks = record { bytes = m.bytes; marks = (with_items c.self.inside.marks c.mark_places.new.marks).items; most = m.most } in
    rw (← c.self.view_is) (marked_cells m n c.args.from c.args.count c.args.mark c.requires.mark refl (ap (λ (l : List ℕ). slice_index l) same ∙ marked))
