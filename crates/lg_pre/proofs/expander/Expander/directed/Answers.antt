use Rattle.std.proofs.Common.{refl}
use Rattle.lg_pre.proofs.StopLemmas.{steps_from, counts_bound}
use Rattle.lg_pre.proofs.expander.Expander.directed.Goals as goal

pub returns-in_err-obey-clause-gives : goal.returns-in_err-obey-clause-gives
returns-in_err-obey-clause-gives c = steps_from c.from_residual.result c.in_err-obey.field-0.0 _ _ c.from_residual.ensures.1 (counts_bound c.in_err-obey.field-0.0 _ _ _ c.in_err-obey.ensures)

pub returns-in_err-feed-clause-gives : goal.returns-in_err-feed-clause-gives
returns-in_err-feed-clause-gives c = rw c.in_ok-obey.ensures (steps_from c.from_residual-in_err-feed.result c.in_err-feed.field-0.0 _ _ c.from_residual-in_err-feed.ensures.1 (counts_bound c.in_err-feed.field-0.0 _ _ _ c.in_err-feed.ensures))

pub returns-clause-gives : goal.returns-clause-gives
returns-clause-gives c = rw (c.in_ok-obey.ensures, c.in_ok-feed.ensures) refl
