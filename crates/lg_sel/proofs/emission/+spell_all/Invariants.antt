use Rattle.std.proofs.Common.{length}
use Rattle.lg_sel.proofs.emission.+spell_all.Given as goal

abbrev pub decreases-spell_all : goal.decreases-spell_all
decreases-spell_all g l = length l.items.now
