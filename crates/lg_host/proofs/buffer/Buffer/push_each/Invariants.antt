use Rattle.std.proofs.Common.{◌≡◌, take}
use Rattle.lg_host.specs.Output.{PassesOn, output}
use Rattle.lg_host.proofs.buffer.Buffer.push_each.Given as goal

abbrev pub invariant-loop-byte : goal.invariant-loop-byte
invariant-loop-byte g l = record {
  told : PassesOn (output (g.O.Sink.taken l.fn.out) l.fn.self (g.O.Sink.faults l.fn.out)) (output (g.O.Sink.taken l.out) l.self (g.O.Sink.faults l.out)) (take l.byte-index l.bytes);
  same : g.O.Sink.faults l.out ≡ g.O.Sink.faults l.fn.out;
}
