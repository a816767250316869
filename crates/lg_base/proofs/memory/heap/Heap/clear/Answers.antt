use Rattle.std.proofs.Common.{length, ap, arith}
use Rattle.lg_base.proofs.HeldLemmas.{from_front_length, front_empty}
use Rattle.lg_base.proofs.memory.heap.Heap.clear.Goals as goal

pub returns-clause-len : goal.returns-clause-len
returns-clause-len c = from_front_length 0x400000 c.clear.new.self.items (omega (arith, ap length c.clear.ensures.items))

pub returns-clause-zero : goal.returns-clause-zero
returns-clause-zero c = front_empty 0x400000 c.clear.new.self.items c.clear.ensures.items
