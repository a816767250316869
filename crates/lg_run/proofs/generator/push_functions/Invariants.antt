use Rattle.std.proofs.Common.{◌≡◌, ◌++◌, ◌-◌}
use Rattle.lg_run.specs.Made.{functions}
use Rattle.lg_run.proofs.generator.push_functions.Given as goal

abbrev pub invariant-loop-function : goal.invariant-loop-function
invariant-loop-function l = l.fn.text ++ functions 18 0 l.fn.seed ≡ l.text ++ functions (18 - l.function) l.function l.state
