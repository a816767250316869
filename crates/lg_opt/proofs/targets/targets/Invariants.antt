use Rattle.std.proofs.Common.{◌≡◌, length}
use Rattle.lg_opt.proofs.LabelTableLemmas.{AreTargetsAt}
use Rattle.lg_opt.proofs.targets.targets.Given as goal

abbrev pub invariant-loop-index : goal.invariant-loop-index
invariant-loop-index l = record { count : length l.table.items ≡ l.index; targets : AreTargetsAt l.nodes l.table.items }
