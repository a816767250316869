use Rattle.std.proofs.Common.{sym, ap, ◌∙◌}
use Rattle.std.specs.Prelude.{slice_index}
use Rattle.lg_base.proofs.HeldLemmas.{from_front_index}
use Rattle.lg_base.proofs.memory.heap.Heap.get.Goals as goal

pub returns : goal.returns
returns c = rw (← c.self.view_is) (c.byte_or_zero.ensures ∙ ap (λ xs. slice_index xs c.args.at) c.deref.ensures.value ∙ ap (λ f. f c.args.at) (sym (from_front_index 0x400000 c.self.inside.held.items)))
