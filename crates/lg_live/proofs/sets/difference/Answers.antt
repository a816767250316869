use Rattle.std.proofs.Common.{ap, ◌∙◌, arith}
use Rattle.lg_live.specs.Registers.{bit_of}
use Rattle.lg_live.proofs.BitLemmas.{less_has, is_set}
use Rattle.lg_live.proofs.sets.difference.Goals as goal

pub returns : goal.returns
returns c = record { registers = λ r. ap (λ n. is_set n (bit_of r)) (c.difference.ensures tt) ∙ less_has c.args.a.0 c.args.b.0 r (omega arith) }
