use Rattle.std.proofs.Common.{sym, subst, arith}
use Rattle.lg_host.specs.Output.{PassesOn, output}
use Rattle.lg_host.proofs.OutputLemmas.{PassesOn-trans, PassesOn-prefix, list-split}
use Rattle.std.proofs.lemmas.List.{take_more}
use Rattle.lg_host.proofs.buffer.Buffer.push_each.Goals as goal

pub loop-byte-preserved : goal.loop-byte-preserved
loop-byte-preserved g c = record {
  told = subst (PassesOn (output (g.O.Sink.taken c.args.out.now) c.args.self.now (g.O.Sink.faults c.args.out.now)) (output (g.O.Sink.taken c.push.new.out) c.push.new.self (g.O.Sink.faults c.push.new.out))) (sym (take_more c.args.bytes.now c.loop-byte.byte-index 0 c.loop-byte-test.true)) (PassesOn-trans (output (g.O.Sink.taken c.args.out.now) c.args.self.now (g.O.Sink.faults c.args.out.now)) (output (g.O.Sink.taken c.loop-byte.out) c.loop-byte.self (g.O.Sink.faults c.loop-byte.out)) (output (g.O.Sink.taken c.push.new.out) c.push.new.self (g.O.Sink.faults c.push.new.out)) _ _ c.loop-byte.invariant.told c.in-Ok.ensures.ok);
  same = omega (arith, c.loop-byte.invariant.same, c.in-Ok.ensures.cause.kept);
}

pub returns-in-Err : goal.returns-in-Err
returns-in-Err g c = record {
  ok = tt;
  err = PassesOn-prefix (output (g.O.Sink.taken c.args.out.now) c.args.self.now (g.O.Sink.faults c.args.out.now)) (output (g.O.Sink.taken c.loop-byte.out) c.loop-byte.self (g.O.Sink.faults c.loop-byte.out)) (output (g.O.Sink.taken c.push.new.out) c.push.new.self (g.O.Sink.faults c.push.new.out)) _ _ _ _ (list-split c.args.bytes.now c.loop-byte.byte-index 0 c.loop-byte-test.true) c.loop-byte.invariant.told c.in-Err.ensures.err;
  cause = record { later = omega (arith, c.loop-byte.invariant.same, c.in-Err.ensures.cause.later); kept = tt; failed = omega (arith, c.loop-byte.invariant.same, c.in-Err.ensures.cause.failed) };
}
