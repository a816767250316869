use Rattle.lg_opt.proofs.RebuildLemmas.{IsMentioned}
use Rattle.lg_opt.proofs.rebuilding.mention_all.Given as goal

abbrev pub invariant-loop-index : goal.invariant-loop-index
invariant-loop-index l = IsMentioned l.old.words l.index l.list
