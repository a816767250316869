use Rattle.lg_live.proofs.SetLemmas.{with_small}
use Rattle.lg_live.proofs.reg_set.RegSet.with.Goals as goal

pub returns-clause-small : goal.returns-clause-small
returns-clause-small c = λ h. rw c.bit_of.ensures (with_small c.args.self.0 c.args.reg h)
