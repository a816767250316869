use Rattle.std.proofs.Common.{arith}
use Rattle.lg_run.proofs.RowLemmas.{function_added, functions_whole}
use Rattle.lg_run.proofs.generator.push_functions.Goals as goal

pub loop-function-preserved : goal.loop-function-preserved
loop-function-preserved c = rw c.in_ok-state.ensures.1
    (function_added _ c.loop-function.text _ c.loop-function.function c.loop-function.state c.loop-function-test.true c.loop-function.invariant c.in_ok-state.ensures.0)

pub returns : goal.returns
returns c = functions_whole _ _ c.loop-function.function c.loop-function.state (omega (arith, c.loop-function-test.false)) c.loop-function.invariant
