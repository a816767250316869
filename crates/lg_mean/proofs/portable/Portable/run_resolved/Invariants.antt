use Rattle.std.proofs.Common.{◌≡◌, ◌-◌, ◌≤◌, ℕ, List, None, length}
use Rattle.lg_meaning.specs.Fits.{Fits}
use Rattle.lg_meaning.specs.Texts.{step}
use Rattle.lg_mean.specs.LineCounts.{CountsSteps, run_from}
use Rattle.lg_mean.specs.Machines.{state_of}
use Rattle.lg_mean.specs.Runs.{GoesFor}
use Rattle.lg_mean.proofs.portable.Portable.run_resolved.Given as goal

abbrev pub invariant-loop-left : goal.invariant-loop-left
invariant-loop-left l = record {
  fits : Fits l.unit.nodes l.shape (state_of l.self.machine);
  running : l.self.over ≡ None;
  labels : l.self.labels ≡ l.fn.self.labels;
  steps : l.self.steps ≡ l.fn.self.steps;
  goes : GoesFor (step l.unit.nodes l.shape l.fn.self.labels.addresses) (l.most - l.left) (state_of l.fn.self.machine) (state_of l.self.machine);
  within : l.left ≤ l.most;
  kept : length l.ran ≡ length l.fn.ran;
  ran : (bytes : List ℕ) → CountsSteps l.unit.nodes (run_from (step l.unit.nodes l.shape l.fn.self.labels.addresses) (state_of l.fn.self.machine) bytes) (l.most - l.left) l.fn.ran l.ran;
}

abbrev pub decreases-loop-left : goal.decreases-loop-left
decreases-loop-left l = l.left
