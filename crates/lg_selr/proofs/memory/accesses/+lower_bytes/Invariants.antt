use Rattle.lg_selr.proofs.memory.accesses.+lower_bytes.Given as goal

abbrev pub decreases-lower_bytes : goal.decreases-lower_bytes
decreases-lower_bytes l = l.count
