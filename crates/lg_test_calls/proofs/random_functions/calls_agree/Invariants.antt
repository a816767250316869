use Rattle.lg_mean.specs.Machines.{state_of}
use Rattle.lg_mean.specs.Programs.{IsTableOf}
use Rattle.lg_meaning.specs.Fits.{Fits}
use Rattle.lg_test_calls.proofs.random_functions.calls_agree.Given as goal

abbrev pub invariant-loop-state : goal.invariant-loop-state
invariant-loop-state l = record {
  made : IsTableOf l.unit.nodes l.shape l.machine.labels;
  fits : Fits l.unit.nodes l.shape (state_of l.machine.machine);
}
