use Rattle.std.proofs.Common.{take, ◌≤◌, ◌≡◌}
use Rattle.std.specs.Io.KnownBytes.{Appends}
use Rattle.lg_io.specs.Wrote.{joined}
use Rattle.lg_io.proofs.sink.write_parts.Given as goal

abbrev pub invariant-loop-part : goal.invariant-loop-part
invariant-loop-part g l = record {
  told : Appends (g.O.Sink.taken l.fn.out) (g.O.Sink.taken l.out) (joined (take l.part-index l.parts));
  later : g.O.Sink.faults l.fn.out ≤ g.O.Sink.faults l.out;
  same : g.O.Sink.faults l.out ≡ g.O.Sink.faults l.fn.out;
}
