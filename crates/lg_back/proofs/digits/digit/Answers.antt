use Rattle.std.proofs.Common.{arith}
use Rattle.lg_back.proofs.ValueLemmas.{value_some, value_none, value_far, value_most}
use Rattle.lg_back.proofs.digits.digit.Goals as goal

pub returns-clause-some : goal.returns-clause-some
returns-clause-some c = value_some c.args.code (omega (arith, c.ranges.code.fits))

pub returns-clause-none : goal.returns-clause-none
returns-clause-none c = value_none c.args.code (omega (arith, c.ranges.code.fits))

pub returns-clause-far : goal.returns-clause-far
returns-clause-far c = value_far c.args.code (omega (arith, c.ranges.code.fits))

pub returns-clause-most : goal.returns-clause-most
returns-clause-most c = value_most c.args.code (omega (arith, c.ranges.code.fits))
