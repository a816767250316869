use Rattle.std.proofs.Common.{ap, ◌∙◌, length, arith}
use Rattle.lg_mean.proofs.machine.Machine.close_frames.Goals as goal

pub loop-turn-preserved : goal.loop-turn-preserved
loop-turn-preserved c =
    let i = c.loop-turn.invariant in
    let closed = c.close_top-in-loop-turn.ensures in
    record {
      empty = closed.empty;
      fewer = omega (arith, ap length closed.callers, c.drop_top.ensures.less, i.fewer, c.loop-turn-test.true, c.callers-turn-end.ensures, ap length c.close_top.ensures.callers);
      alike = λ sp args. closed.alike sp args ∙ c.drop_top.ensures.alike sp args ∙ i.alike sp args;
    }
