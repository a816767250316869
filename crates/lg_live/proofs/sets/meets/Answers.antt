use Rattle.lg_live.proofs.BitLemmas.{common}
use Rattle.lg_live.proofs.sets.meets.Goals as goal

pub returns : goal.returns
returns c = rw (c.bits.ensures, c.bits-2.ensures) (common c.args.a c.args.b)
