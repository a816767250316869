use Rattle.std.proofs.Common.{◌≡◌, take}
use Rattle.lg_host.specs.Output.{PassesOn, output, parts_bytes}
use Rattle.lg_host.proofs.parts.put_parts.Given as goal

abbrev pub invariant-loop-part : goal.invariant-loop-part
invariant-loop-part g l = record {
  told : PassesOn (output (g.O.Sink.taken l.fn.out) l.fn.buffer (g.O.Sink.faults l.fn.out)) (output (g.O.Sink.taken l.out) l.buffer (g.O.Sink.faults l.out)) (parts_bytes (g.S.Space.byte_of l.mem) (take l.part-index l.parts));
  same : g.O.Sink.faults l.out ≡ g.O.Sink.faults l.fn.out;
}
