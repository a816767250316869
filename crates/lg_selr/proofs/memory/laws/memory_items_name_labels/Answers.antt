use Rattle.lg_selr.proofs.OfMemory.WithinLemmas.{memory-items-name}
use Rattle.lg_selr.proofs.memory.laws.memory_items_name_labels.Goals as goal

pub returns : goal.returns
returns c = memory-items-name
