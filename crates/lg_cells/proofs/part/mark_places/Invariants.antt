use Rattle.std.proofs.Common.{◌≡◌}
use Rattle.std.specs.Prelude.{slice_index}
use Rattle.lg_cells.specs.Cells.{with_marks}
use Rattle.lg_cells.proofs.part.mark_places.Given as goal

abbrev pub invariant-loop-i : goal.invariant-loop-i
invariant-loop-i l = slice_index l.marks ≡ with_marks (slice_index l.initial.marks) l.from l.i l.mark
