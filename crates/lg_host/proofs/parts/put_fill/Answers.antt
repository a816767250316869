use Rattle.std.proofs.Common.{sym, subst, arith}
use Rattle.lg_host.specs.Output.{PassesOn, output}
use Rattle.lg_host.proofs.OutputLemmas.{PassesOn-trans, PassesOn-prefix, replicate-split}
use Rattle.std.proofs.lemmas.List.{replicate_more}
use Rattle.lg_host.proofs.parts.put_fill.Goals as goal

pub loop-i-preserved : goal.loop-i-preserved
loop-i-preserved g c = record {
  told = subst (PassesOn (output (g.O.Sink.taken c.args.out.now) c.args.buffer.now (g.O.Sink.faults c.args.out.now)) (output (g.O.Sink.taken c.push.new.out) c.push.new.self (g.O.Sink.faults c.push.new.out))) (sym (sym (replicate_more c.loop-i.i c.args.byte))) (PassesOn-trans (output (g.O.Sink.taken c.args.out.now) c.args.buffer.now (g.O.Sink.faults c.args.out.now)) (output (g.O.Sink.taken c.loop-i.out) c.loop-i.buffer (g.O.Sink.faults c.loop-i.out)) (output (g.O.Sink.taken c.push.new.out) c.push.new.self (g.O.Sink.faults c.push.new.out)) _ _ c.loop-i.invariant.told c.in-Ok.ensures.ok);
  same = omega (arith, c.loop-i.invariant.same, c.in-Ok.ensures.cause.kept);
}

pub returns-in-Err : goal.returns-in-Err
returns-in-Err g c = record {
  ok = tt;
  err = PassesOn-prefix (output (g.O.Sink.taken c.args.out.now) c.args.buffer.now (g.O.Sink.faults c.args.out.now)) (output (g.O.Sink.taken c.loop-i.out) c.loop-i.buffer (g.O.Sink.faults c.loop-i.out)) (output (g.O.Sink.taken c.push.new.out) c.push.new.self (g.O.Sink.faults c.push.new.out)) _ _ _ _ (replicate-split c.args.count c.loop-i.i c.args.byte (omega arith)) c.loop-i.invariant.told c.in-Err.ensures.err;
  cause = record { later = omega (arith, c.loop-i.invariant.same, c.in-Err.ensures.cause.later); kept = tt; failed = omega (arith, c.loop-i.invariant.same, c.in-Err.ensures.cause.failed) };
}
