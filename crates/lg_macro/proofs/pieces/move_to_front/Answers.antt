use Rattle.lg_macro.proofs.RowLemmas.{moved_one}
use Rattle.lg_macro.proofs.pieces.move_to_front.Goals as goal

pub loop-part-preserved : goal.loop-part-preserved
loop-part-preserved c = moved_one c.args.from c.loop-part.part-index c.args.parts.now c.loop-part.parts _ c.moved.result c.loop-part-test.true c.loop-part.auto.parts c.loop-part.invariant c.moved.ensures
