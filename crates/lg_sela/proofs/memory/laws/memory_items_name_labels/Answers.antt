use Rattle.lg_sela.proofs.OfMemory.WithinLemmas.{memory-items-name}
use Rattle.lg_sela.proofs.memory.laws.memory_items_name_labels.Goals as goal

pub returns : goal.returns
returns c = memory-items-name
