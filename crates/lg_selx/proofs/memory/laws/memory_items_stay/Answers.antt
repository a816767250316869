use Rattle.lg_selx.proofs.OfMemory.WithinLemmas.{memory-items-stay}
use Rattle.lg_selx.proofs.memory.laws.memory_items_stay.Goals as goal

pub returns : goal.returns
returns c = memory-items-stay
