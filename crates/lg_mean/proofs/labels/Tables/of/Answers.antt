use Rattle.lg_mean.proofs.TableLemmas.{none_yet}
use Rattle.lg_mean.proofs.labels.Tables.of.Goals as goal

pub loop-label-init : goal.loop-label-init
loop-label-init c = rw (c.new.ensures.empty, c.new-2.ensures.empty) (none_yet _ _)
