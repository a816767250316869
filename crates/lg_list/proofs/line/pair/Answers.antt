use Rattle.std.proofs.Common.{arith}
use Rattle.lg_list.proofs.PairLemmas.{pair-high, pair-low}
use Rattle.lg_list.proofs.line.pair.Goals as goal

pub returns-clause-high : goal.returns-clause-high
returns-clause-high c = pair-high c.args.byte (omega (arith, c.ranges.byte.fits))

pub returns-clause-low : goal.returns-clause-low
returns-clause-low c = pair-low c.args.byte (omega (arith, c.ranges.byte.fits))
