use Rattle.std.proofs.Common.{◌∙◌, sym, arith}
use Rattle.lg_run.proofs.RowLemmas.{piece_added, pieces_whole, state_at_end, state_after}
use Rattle.lg_run.proofs.generator.push_pieces.Goals as goal

pub loop-preserved : goal.loop-preserved
loop-preserved c = rw c.in_ok-state.ensures.1 (record {
  text = piece_added _ c.loop.text _ c.loop.counter c.loop.state c.loop-test.true c.loop.invariant.text c.in_ok-state.ensures.0;
  state = c.loop.invariant.state ∙ state_after c.loop.counter c.loop.state c.loop-test.true;
})

pub returns : goal.returns
returns c = (
  pieces_whole _ _ c.loop.counter c.loop.state (omega (arith, c.loop-test.false)) c.loop.invariant.text,
  sym (c.loop.invariant.state ∙ state_at_end c.loop.counter c.loop.state (omega (arith, c.loop-test.false))),
)
