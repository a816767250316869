use Rattle.lg_back.proofs.PairLemmas.{pair-some, pair-none, pair-far}
use Rattle.lg_back.proofs.digits.pair.Goals as goal

pub returns-clause-some : goal.returns-clause-some
returns-clause-some c = pair-some c.args.high c.args.low c.digit.result c.digit-2.result (record { some = c.digit.ensures.some; none = c.digit.ensures.none; far = c.digit.ensures.far })
    (record { some = c.digit-2.ensures.some; none = c.digit-2.ensures.none; far = c.digit-2.ensures.far })

pub returns-clause-none : goal.returns-clause-none
returns-clause-none c = pair-none c.args.high c.args.low c.digit.result c.digit-2.result (record { some = c.digit.ensures.some; none = c.digit.ensures.none; far = c.digit.ensures.far })
    (record { some = c.digit-2.ensures.some; none = c.digit-2.ensures.none; far = c.digit-2.ensures.far })

pub returns-clause-far : goal.returns-clause-far
returns-clause-far c = pair-far c.args.high c.args.low c.digit.result c.digit-2.result (record { some = c.digit.ensures.some; none = c.digit.ensures.none; far = c.digit.ensures.far })
    (record { some = c.digit-2.ensures.some; none = c.digit-2.ensures.none; far = c.digit-2.ensures.far })
