use Rattle.std.proofs.Common.{ap, sym, ◌∙◌, map, reverse, ◌∷◌}
use Rattle.lg_cells.specs.Memories.{byte_at}
use Rattle.lg_cells.proofs.PlaceLemmas.{byte_room}
use Rattle.lg_meaning.specs.States.{is_part}
use Rattle.lg_mean.specs.Machines.{frame_in}
use Rattle.lg_mean.proofs.ReadLemmas.{loaded_is_read}
use Rattle.lg_mean.proofs.machine.Machine.number.Goals as goal

pub returns : goal.returns
returns c =
    let m = c.self.inside in
    rw (← c.self.view_is)
    (c.load.ensures
    ∙ loaded_is_read (byte_at m.memory) (is_part m.data_size m.args_size m.heap (frame_in m.top ∷ map frame_in (reverse m.below.items))) c.args.address c.args.width
    (λ j b h. sym (ap (λ p. p j) c.self.invariant.rooms) ∙ byte_room m.memory j b h))
