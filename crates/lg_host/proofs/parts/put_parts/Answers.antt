use Rattle.std.proofs.Common.{sym, subst, arith}
use Rattle.lg_host.specs.Output.{PassesOn, output}
use Rattle.lg_host.proofs.OutputLemmas.{PassesOn-trans, PassesOn-prefix, parts_bytes-split, parts_bytes-more}
use Rattle.lg_host.proofs.parts.put_parts.Goals as goal

pub loop-part-preserved : goal.loop-part-preserved
loop-part-preserved g c = record {
  told = subst (PassesOn (output (g.O.Sink.taken c.args.out.now) c.args.buffer.now (g.O.Sink.faults c.args.out.now)) (output (g.O.Sink.taken c.put_part.new.out) c.put_part.new.buffer (g.O.Sink.faults c.put_part.new.out))) (sym (parts_bytes-more (g.S.Space.byte_of c.args.mem.now) c.args.parts.now c.loop-part.part-index _ c.loop-part-test.true)) (PassesOn-trans (output (g.O.Sink.taken c.args.out.now) c.args.buffer.now (g.O.Sink.faults c.args.out.now)) (output (g.O.Sink.taken c.loop-part.out) c.loop-part.buffer (g.O.Sink.faults c.loop-part.out)) (output (g.O.Sink.taken c.put_part.new.out) c.put_part.new.buffer (g.O.Sink.faults c.put_part.new.out)) _ _ c.loop-part.invariant.told c.in-Ok.ensures.ok);
  same = omega (arith, c.loop-part.invariant.same, c.in-Ok.ensures.cause.kept);
}

pub returns-in-Err : goal.returns-in-Err
returns-in-Err g c = record {
  ok = tt;
  err = PassesOn-prefix (output (g.O.Sink.taken c.args.out.now) c.args.buffer.now (g.O.Sink.faults c.args.out.now)) (output (g.O.Sink.taken c.loop-part.out) c.loop-part.buffer (g.O.Sink.faults c.loop-part.out)) (output (g.O.Sink.taken c.put_part.new.out) c.put_part.new.buffer (g.O.Sink.faults c.put_part.new.out)) _ _ _ _ (parts_bytes-split (g.S.Space.byte_of c.args.mem.now) c.args.parts.now c.loop-part.part-index _ c.loop-part-test.true) c.loop-part.invariant.told c.in-Err.ensures.err;
  cause = record { later = omega (arith, c.loop-part.invariant.same, c.in-Err.ensures.cause.later); kept = tt; failed = omega (arith, c.loop-part.invariant.same, c.in-Err.ensures.cause.failed) };
}
