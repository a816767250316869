use Rattle.std.proofs.Common.{◌-◌, ◌≤◌, ◌<◌, ℕ, List, length}
use Rattle.lg_cpu.specs.LineCounts.{AddsSteps}
use Rattle.lg_cpu.specs.Series.{LeadsOver, code_run}
use Rattle.lg_cpu.proofs.series.execute_code.Given as goal

abbrev pub invariant-loop-left : goal.invariant-loop-left
invariant-loop-left g l = record {
  leads : LeadsOver (g.P.Stepping.inner l.fn.processor) (g.P.Stepping.inner l.processor) (l.most - l.left);
  within : l.left ≤ l.most;
  counts : (out : List ℕ) → AddsSteps l.lines (code_run (g.P.Stepping.inner l.fn.processor) out) l.before l.line (l.most - l.left) l.fn.counts l.counts;
  below : 0 < length l.fn.counts → l.line < length l.fn.counts;
}

abbrev pub decreases-loop-left : goal.decreases-loop-left
decreases-loop-left g l = l.left
