use Rattle.std.proofs.Common.{◌-◌, ◌≡◌, ◌≤◌}
use Rattle.lg_host.specs.Output.{PassesOn, output, bytes_from}
use Rattle.lg_host.proofs.parts.put_each.Given as goal

abbrev pub invariant-loop-at : goal.invariant-loop-at
invariant-loop-at g l = record {
  told : PassesOn (output (g.O.Sink.taken l.fn.out) l.fn.buffer (g.O.Sink.faults l.fn.out)) (output (g.O.Sink.taken l.out) l.buffer (g.O.Sink.faults l.out)) (bytes_from (l.at - l.from) (g.S.Space.byte_of l.mem) l.from);
  same : g.O.Sink.faults l.out ≡ g.O.Sink.faults l.fn.out;
  within : l.at - l.from ≤ l.to - l.from;
}
