use Rattle.std.proofs.Common.{◌+◌, arith}
use Rattle.std.specs.Prelude.{slice_index}
use Rattle.lg_base.proofs.SpaceLemmas.{number_at-halves}
use Rattle.lg_base.proofs.memory.number_in.Goals as goal

pub returns-in-8 : goal.returns-in-8
returns-in-8 c =
    let halves = number_at-halves (slice_index c.args.bytes.now) c.args.at (c.args.at + 4) (omega arith) in
    rw c.in-8.is (omega (arith, halves, c.number_of.ensures.value, c.number_of-in-8.ensures.value))
