use Rattle.std.proofs.Common.{length, ap, arith}
use Rattle.lg_base.proofs.HeldLemmas.{from_end_length, end_empty}
use Rattle.lg_base.proofs.memory.stack.Stack.clear.Goals as goal

pub returns-clause-len : goal.returns-clause-len
returns-clause-len c = from_end_length 0x100000 c.clear.new.self.items (omega (arith, ap length c.clear.ensures.items))

pub returns-clause-zero : goal.returns-clause-zero
returns-clause-zero c = end_empty 0x100000 c.clear.new.self.items c.clear.ensures.items
