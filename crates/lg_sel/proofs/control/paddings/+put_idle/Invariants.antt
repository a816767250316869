use Rattle.lg_sel.proofs.control.paddings.+put_idle.Given as goal

abbrev pub decreases-put_idle : goal.decreases-put_idle
decreases-put_idle g l = l.count
