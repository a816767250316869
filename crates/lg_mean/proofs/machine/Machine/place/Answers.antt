use Rattle.std.proofs.Common.{ap, sym, ◌∙◌}
use Rattle.lg_cells.proofs.PlaceLemmas.{byte_room}
use Rattle.lg_mean.proofs.machine.Machine.place.Goals as goal

pub returns-clause-memory : goal.returns-clause-memory
returns-clause-memory c =
    let m = c.self.inside in
    rw (← c.self.view_is) (λ a b h. sym (ap (λ p. p a) c.self.invariant.rooms) ∙ byte_room m.memory a b h)
