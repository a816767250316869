use Rattle.std.proofs.Common.{◌≡◌, ◌+◌, length}
use Rattle.lg_mean.specs.Entering.{BeginsAlike}
use Rattle.lg_mean.specs.Machines.{state_of}
use Rattle.lg_mean.proofs.machine.Machine.close_frames.Given as goal

abbrev pub invariant-loop-turn : goal.invariant-loop-turn
invariant-loop-turn l = record {
  empty : l.self.top.locals ≡ 0;
  fewer : length (state_of l.self).callers + l._turn ≡ length (state_of l.fn.self).callers;
  alike : BeginsAlike (state_of l.fn.self) (state_of l.self);
}
