use Rattle.lg_selr.proofs.memory.accesses.+higher_bytes.Given as goal

abbrev pub decreases-higher_bytes : goal.decreases-higher_bytes
decreases-higher_bytes l = l.count
