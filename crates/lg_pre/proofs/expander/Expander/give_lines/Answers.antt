use Rattle.std.proofs.Common.{refl}
use Rattle.lg_pre.proofs.StopLemmas.{counts_from, counts_bound}
use Rattle.lg_pre.proofs.expander.Expander.give_lines.Goals as goal

pub returns-in_err-flush : goal.returns-in_err-flush
returns-in_err-flush c = counts_from c.from_residual.result c.in_err-flush.field-0.0 _ _ c.from_residual.ensures.1 (counts_bound c.in_err-flush.field-0.0 _ _ _ c.in_err-flush.ensures.gives)

pub returns : goal.returns
returns c = rw (c.in_ok-flush.ensures.gives, c.clear-2.ensures) refl
