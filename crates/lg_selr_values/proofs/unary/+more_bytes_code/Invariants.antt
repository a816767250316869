use Rattle.lg_selr_values.proofs.unary.+more_bytes_code.Given as goal

abbrev pub decreases-more_bytes_code : goal.decreases-more_bytes_code
decreases-more_bytes_code l = l.n
