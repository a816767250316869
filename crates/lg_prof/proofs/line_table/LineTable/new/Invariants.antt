use Rattle.lg_prof.proofs.LineLemmas.{HasLines}
use Rattle.lg_prof.proofs.line_table.LineTable.new.Given as goal

abbrev pub invariant-loop-index : goal.invariant-loop-index
invariant-loop-index l = HasLines l.nodes.nodes l.places.items l.lines.items l.index
