use Rattle.std.proofs.Common.{◌≡◌}
use Rattle.lg_host.specs.Output.{PassesOn, output}
use Rattle.std.specs.Prelude.{replicate}
use Rattle.lg_host.proofs.parts.put_fill.Given as goal

abbrev pub invariant-loop-i : goal.invariant-loop-i
invariant-loop-i g l = record {
  told : PassesOn (output (g.O.Sink.taken l.fn.out) l.fn.buffer (g.O.Sink.faults l.fn.out)) (output (g.O.Sink.taken l.out) l.buffer (g.O.Sink.faults l.out)) (replicate l.i l.byte);
  same : g.O.Sink.faults l.out ≡ g.O.Sink.faults l.fn.out;
}
