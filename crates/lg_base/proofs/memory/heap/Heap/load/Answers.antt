use Rattle.lg_base.proofs.HeldLemmas.{front_read}
use Rattle.lg_base.proofs.memory.heap.Heap.load.Goals as goal

pub returns-then-at-width : goal.returns-then-at-width
returns-then-at-width c = rw (← c.self.view_is) (front_read 0x400000 c.self.inside.held.items c.deref.result.now c.args.at c.args.width c.number_in.result c.deref.ensures.value c.number_in.ensures)

pub returns-else-at-width : goal.returns-else-at-width
returns-else-at-width c = rw (← c.self.view_is) (front_read 0x400000 c.self.inside.held.items c.deref-else-at-width.result.now c.args.at c.args.width c.number_past.result c.deref-else-at-width.ensures.value c.number_past.ensures)
