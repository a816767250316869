use Rattle.std.proofs.Common.{◌≡◌, ◌++◌, ◌-◌}
use Rattle.lg_run.specs.Made.{calls}
use Rattle.lg_run.proofs.generator.push_calls.Given as goal

abbrev pub invariant-loop-function : goal.invariant-loop-function
invariant-loop-function l = l.fn.text ++ calls 18 0 ≡ l.text ++ calls (18 - l.function) l.function
