use Rattle.std.proofs.Common.{arith}
use Rattle.lg_run.proofs.RowLemmas.{call_added, calls_whole}
use Rattle.lg_run.proofs.generator.push_calls.Goals as goal

pub loop-function-preserved : goal.loop-function-preserved
loop-function-preserved c = call_added _ c.loop-function.text _ c.loop-function.function c.loop-function-test.true c.loop-function.invariant c.in_ok-push_call.ensures

pub returns : goal.returns
returns c = calls_whole _ _ c.loop-function.function (omega (arith, c.loop-function-test.false)) c.loop-function.invariant
