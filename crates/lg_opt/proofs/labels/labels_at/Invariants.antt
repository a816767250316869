use Rattle.lg_opt.proofs.LabelTableLemmas.{AreNoted}
use Rattle.lg_opt.proofs.labels.labels_at.Given as goal

abbrev pub invariant-loop-index : goal.invariant-loop-index
invariant-loop-index l = AreNoted l.nodes l.table.items l.index
