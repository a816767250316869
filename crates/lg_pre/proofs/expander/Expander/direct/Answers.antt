use Rattle.std.proofs.Common.{sym}
use Rattle.lg_pre.proofs.StopLemmas.{steps_from, counts_bound}
use Rattle.lg_pre.proofs.expander.Expander.direct.Goals as goal

pub returns-in_err-flush_lines-clause-gives : goal.returns-in_err-flush_lines-clause-gives
returns-in_err-flush_lines-clause-gives c = steps_from c.from_residual.result c.in_err-flush_lines.field-0.0 _ _ c.from_residual.ensures.1 (counts_bound c.in_err-flush_lines.field-0.0 _ _ _ c.in_err-flush_lines.ensures)

pub returns-clause-gives : goal.returns-clause-gives
returns-clause-gives c = rw (c.in_ok-flush_lines.ensures, sym c.in_ok-body.ensures, sym c.line.ensures) c.directed.ensures.gives
