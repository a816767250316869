use Rattle.lg_selr.proofs.OfMemory.MemoryNodeLemmas.{memory-is-carried}
use Rattle.lg_selr.proofs.memory.laws.memory_nodes_are_carried.Goals as goal

pub returns : goal.returns
returns c = memory-is-carried
