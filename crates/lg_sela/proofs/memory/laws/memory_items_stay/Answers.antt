use Rattle.lg_sela.proofs.OfMemory.WithinLemmas.{memory-items-stay}
use Rattle.lg_sela.proofs.memory.laws.memory_items_stay.Goals as goal

pub returns : goal.returns
returns c = memory-items-stay
