use Rattle.std.proofs.Common.{refl}
use Rattle.lg_opt.proofs.LabelTableLemmas.{note-next}
use Rattle.lg_opt.proofs.labels.labels_at.Goals as goal

pub loop-index-preserved : goal.loop-index-preserved
loop-index-preserved c = note-next c.args.nodes.now c.loop-index.table.items c.note.new.table.items c.loop-index.index c.place.result _ refl c.place.ensures.place c.loop-index.invariant c.note.ensures.count c.note.ensures.noted
