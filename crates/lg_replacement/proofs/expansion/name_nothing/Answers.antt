use Rattle.std.proofs.Common.{arith}
use Rattle.std.proofs.lemmas.List.{drop_all}
use Rattle.lg_replacement.proofs.ExpansionLemmas.{drop_argument}
use Rattle.lg_replacement.proofs.expansion.name_nothing.Goals as goal

pub raw-preserved : goal.raw-preserved
raw-preserved c = λ h. c.raw.invariant (rw (drop_argument c.args.raw.now c.raw.i c.index-raw-i.result c.raw-test.true c.index-raw-i.is) (c.names_nothing.ensures c.if-not-names_nothing.false, h))

pub returns : goal.returns
returns c = λ _. c.raw.invariant (rw (drop_all c.raw.i c.args.raw.now (omega arith)) tt)
