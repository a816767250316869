use Rattle.std.proofs.Common.{sym, ap, ◌∙◌}
use Rattle.std.specs.Prelude.{slice_index}
use Rattle.lg_base.proofs.HeldLemmas.{from_front_index}
use Rattle.lg_base.proofs.memory.heap.Heap.held.Goals as goal

pub returns-clause-bytes : goal.returns-clause-bytes
returns-clause-bytes c = rw (← c.self.view_is) (λ k lt. ap (λ xs. slice_index xs k) c.deref.ensures.value ∙ ap (λ f. f k) (sym (from_front_index 0x400000 c.self.inside.held.items)))
