use Rattle.lg_base.specs.Parts.{Parts}
use Rattle.lg_base.proofs.PartLemmas.{raise_room}
use Rattle.lg_base.proofs.memory.MemorySpace.raise.Goals as goal

pub returns-clause-rooms : goal.returns-clause-rooms
returns-clause-rooms c =
    let p : Parts = record { data_part = c.self.inside.«data».items; args_part = c.self.inside.args.items; heap_part = c.self.inside.heap; stack_part = c.self.inside.stack } in
    rw (← c.self.view_is) (raise_room p c.args.mark c.self.invariant c.requires.high)
