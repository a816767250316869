use Rattle.lg_selx.proofs.OfMemory.FitLemmas.{memory-items-fit}
use Rattle.lg_selx.proofs.memory.laws.memory_items_fit.Goals as goal

pub returns : goal.returns
returns c = memory-items-fit
