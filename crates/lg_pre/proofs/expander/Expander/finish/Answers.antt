use Rattle.lg_pre.specs.Expanded.{finishes}
use Rattle.lg_pre.proofs.StopLemmas.{counts_from, counts_bound}
use Rattle.lg_pre.proofs.expander.Expander.finish.Goals as goal

pub returns-in_err-flush_lines : goal.returns-in_err-flush_lines
unfolding finishes
returns-in_err-flush_lines c = counts_from c.from_residual.result c.in_err-flush_lines.field-0.0 _ _ c.from_residual.ensures.1 (counts_bound c.in_err-flush_lines.field-0.0 _ _ _ c.in_err-flush_lines.ensures)
