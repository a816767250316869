use Rattle.std.proofs.Common.{◌≡◌, ◌+◌, ◌-◌, ◌≤◌, None, length}
use Rattle.lg_meaning.specs.Fits.{Fits}
use Rattle.lg_meaning.specs.Means.{mean_from}
use Rattle.lg_mean.specs.LineCounts.{CountsSteps}
use Rattle.lg_mean.specs.Machines.{state_of}
use Rattle.lg_mean.specs.Runs.{HasGoneOn}
use Rattle.lg_mean.proofs.portable.Portable.run_counted.Given as goal

abbrev pub invariant-loop-taken : goal.invariant-loop-taken
invariant-loop-taken g l = record {
  fits : Fits l.unit.nodes l.shape (state_of l.self.machine);
  running : l.self.over ≡ None;
  labels : l.self.labels ≡ l.fn.self.labels;
  steps : l.self.steps ≡ l.fn.self.steps + l.taken;
  goes : HasGoneOn (mean_from l.unit.nodes l.shape l.fn.self.labels.addresses (state_of l.fn.self.machine)) l.taken (state_of l.self.machine) (g.O.Sink.taken l.fn.out) (g.O.Sink.taken l.out);
  same : g.O.Sink.faults l.out ≡ g.O.Sink.faults l.fn.out;
  within : l.taken ≤ l.most;
  kept : length l.ran ≡ length l.fn.ran;
  ran : CountsSteps l.unit.nodes (mean_from l.unit.nodes l.shape l.fn.self.labels.addresses (state_of l.fn.self.machine)) l.taken l.fn.ran l.ran;
}

abbrev pub decreases-loop-taken : goal.decreases-loop-taken
decreases-loop-taken g l = l.most - l.taken
