use Rattle.std.proofs.Common.{ap, ◌∙◌, arith}
use Rattle.std.specs.Prelude.{if◌then◌else◌}
use Rattle.lg_base.specs.Spaces.{stored}
use Rattle.lg_base.specs.Parts.{byte_at}
use Rattle.lg_base.proofs.PartLemmas.{put_is, put_room}
use Rattle.lg_base.proofs.memory.MemorySpace.put.Goals as goal

pub returns-clause-bytes : goal.returns-clause-bytes
returns-clause-bytes c =
    let m = byte_at c.args.self.now in
    c.store.ensures.bytes
    ∙ ap (λ v. if c.store.result then stored m c.args.address 1 v else m) c.from.ensures
    ∙ ap (λ f. if c.store.result then f else m) (put_is m c.args.address c.args.byte (omega (arith, c.ranges.byte.fits)))

pub returns-clause-rooms : goal.returns-clause-rooms
returns-clause-rooms c =
    let m = byte_at c.args.self.now in
    put_room m (byte_at c.store.new.self) c.args.address c.args.byte c.store.result (omega (arith, c.ranges.byte.fits)) c.store.ensures.done
    (c.store.ensures.bytes ∙ ap (λ v. if c.store.result then stored m c.args.address 1 v else m) c.from.ensures)
