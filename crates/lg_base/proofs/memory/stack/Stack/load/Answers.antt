use Rattle.lg_base.proofs.HeldLemmas.{end_read}
use Rattle.lg_base.proofs.memory.stack.Stack.load.Goals as goal

pub returns-then-at-len : goal.returns-then-at-len
returns-then-at-len c = rw (← c.self.view_is) (end_read 0x100000 c.self.inside.held.items c.deref.result.now c.args.at c.args.width c.number_in.result c.self.invariant.0 c.deref.ensures.value c.number_in.ensures)

pub returns-else-at-len : goal.returns-else-at-len
returns-else-at-len c = rw (← c.self.view_is) (end_read 0x100000 c.self.inside.held.items c.deref-else-at-len.result.now c.args.at c.args.width c.number_past.result c.self.invariant.0 c.deref-else-at-len.ensures.value c.number_past.ensures)
