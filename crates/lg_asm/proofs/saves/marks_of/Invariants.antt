use Rattle.lg_asm.proofs.OutwardLemmas.{AreMarked}
use Rattle.lg_asm.proofs.saves.marks_of.Given as goal

abbrev pub invariant-loop-index : goal.invariant-loop-index
invariant-loop-index l = AreMarked l.nodes l.entries l.marks.items l.index
