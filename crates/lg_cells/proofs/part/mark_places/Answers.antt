use Rattle.std.proofs.Common.{arith}
use Rattle.lg_cells.proofs.PartLemmas.{with_marks-next}
use Rattle.lg_cells.proofs.part.mark_places.Goals as goal

pub loop-i-preserved : goal.loop-i-preserved
loop-i-preserved c = with_marks-next c.loop-i.marks _ _ _ _ (omega arith) c.loop-i.invariant
