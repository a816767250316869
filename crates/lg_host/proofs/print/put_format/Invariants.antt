use Rattle.std.proofs.Common.{◌≡◌}
use Rattle.lg_host.specs.Printed.{printed_at}
use Rattle.lg_host.specs.Output.{output}
use Rattle.lg_host.proofs.PrintLemmas.{SoFar}
use Rattle.lg_host.specs.declared.format.Reading.TheVariants as reading
use Rattle.lg_host.proofs.print.put_format.Given as goal

abbrev pub invariant-loop-at : goal.invariant-loop-at
invariant-loop-at g l = record {
  so_far : SoFar (printed_at (g.S.Space.byte_of l.mem) reading.Plain l.from l.args) (g.S.Space.byte_of l.mem) l.place l.args l.at (output (g.O.Sink.taken l.fn.out) l.fn.buffer (g.O.Sink.faults l.fn.out)) (output (g.O.Sink.taken l.out) l.buffer (g.O.Sink.faults l.out));
  same : g.O.Sink.faults l.out ≡ g.O.Sink.faults l.fn.out;
}
