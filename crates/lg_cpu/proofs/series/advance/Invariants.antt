use Rattle.std.proofs.Common.{◌≡◌, ◌+◌, ◌-◌, ◌<◌, ◌≤◌, ℕ, List, length}
use Rattle.std.specs.Io.KnownBytes.{Appends}
use Rattle.lg_cpu.specs.LineCounts.{AddsSteps}
use Rattle.lg_cpu.specs.Series.{IsAt, going_on, run_from}
use Rattle.lg_cpu.proofs.series.advance.Given as goal

abbrev pub invariant-loop-went : goal.invariant-loop-went
invariant-loop-went g l = record {
  there : (out : List ℕ) × IsAt (going_on (g.P.Stepping.inner l.fn.processor) l.fn.steps) (going_on (g.P.Stepping.inner l.processor) (l.fn.steps + l.went)) l.went out
      × Appends (g.O.Sink.taken l.fn.out) (g.O.Sink.taken l.out) out;
  faults : g.O.Sink.faults l.out ≡ g.O.Sink.faults l.fn.out;
  within : l.went ≤ l.most;
  counts : AddsSteps l.lines (run_from (going_on (g.P.Stepping.inner l.fn.processor) l.fn.steps)) 0 l.line l.went l.fn.counts l.counts;
  below : 0 < length l.fn.counts → l.line < length l.fn.counts;
}

abbrev pub decreases-loop-went : goal.decreases-loop-went
decreases-loop-went g l = l.most - l.went
