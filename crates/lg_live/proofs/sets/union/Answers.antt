use Rattle.std.proofs.Common.{ap, ◌∙◌}
use Rattle.std.proofs.lemmas.Nat.{le_or_l}
use Rattle.lg_live.specs.Registers.{bit_of}
use Rattle.lg_live.proofs.BitLemmas.{or_has, is_set}
use Rattle.lg_live.proofs.sets.union.Goals as goal

pub returns-clause-registers : goal.returns-clause-registers
returns-clause-registers c = λ r. ap (λ n. is_set n (bit_of r)) (c.union.ensures tt) ∙ or_has c.args.a.0 c.args.b.0 r

pub returns-clause-grows : goal.returns-clause-grows
returns-clause-grows c = rw (c.union.ensures tt) (le_or_l c.args.a.0 c.args.b.0)
