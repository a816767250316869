use Rattle.std.proofs.Common.{[], ◌∷◌, ◌++◌, sym, ap, ◌∙◌, subst, arith}
use Rattle.lg_host.specs.Output.{PassesOn, output}
use Rattle.lg_host.proofs.OutputLemmas.{PassesOn-trans, PassesOn-prefix, bytes_from-more, bytes_from-split}
use Rattle.std.specs.Prelude.{unwrap_or}
use Rattle.lg_io.specs.Wrote.{AppendsPrefix}
use Rattle.lg_host.proofs.parts.put_each.Goals as goal

pub loop-at-preserved : goal.loop-at-preserved
loop-at-preserved g c = record {
  told = subst (PassesOn (output (g.O.Sink.taken c.args.out.now) c.args.buffer.now (g.O.Sink.faults c.args.out.now)) (output (g.O.Sink.taken c.push.new.out) c.push.new.self (g.O.Sink.faults c.push.new.out))) (sym (bytes_from-more (g.S.Space.byte_of c.args.mem.now) c.args.from c.loop-at.at c.loop-at.auto.at)) (PassesOn-trans (output (g.O.Sink.taken c.args.out.now) c.args.buffer.now (g.O.Sink.faults c.args.out.now)) (output (g.O.Sink.taken c.loop-at.out) c.loop-at.buffer (g.O.Sink.faults c.loop-at.out)) (output (g.O.Sink.taken c.push.new.out) c.push.new.self (g.O.Sink.faults c.push.new.out)) _ _ c.loop-at.invariant.told (subst (λ v. PassesOn (output (g.O.Sink.taken c.loop-at.out) c.loop-at.buffer (g.O.Sink.faults c.loop-at.out)) (output (g.O.Sink.taken c.push.new.out) c.push.new.self (g.O.Sink.faults c.push.new.out)) (v ∷ [])) (c.unwrap_or.ensures ∙ ap (λ o. unwrap_or o 0) c.get.ensures) c.in-Ok.ensures.ok));
  same = omega (arith, c.loop-at.invariant.same, c.in-Ok.ensures.cause.kept);
  within = omega arith;
}

pub returns-in-Err : goal.returns-in-Err
returns-in-Err g c = record {
  ok = tt;
  err = PassesOn-prefix (output (g.O.Sink.taken c.args.out.now) c.args.buffer.now (g.O.Sink.faults c.args.out.now)) (output (g.O.Sink.taken c.loop-at.out) c.loop-at.buffer (g.O.Sink.faults c.loop-at.out)) (output (g.O.Sink.taken c.push.new.out) c.push.new.self (g.O.Sink.faults c.push.new.out)) _ _ _ _ (bytes_from-split (g.S.Space.byte_of c.args.mem.now) c.args.from c.loop-at.at c.args.to c.loop-at.auto.at (omega arith)) c.loop-at.invariant.told (subst (λ v. AppendsPrefix (g.O.Sink.taken c.loop-at.out) (g.O.Sink.taken c.push.new.out) (c.loop-at.buffer ++ v ∷ [])) (c.unwrap_or.ensures ∙ ap (λ o. unwrap_or o 0) c.get.ensures) c.in-Err.ensures.err);
  cause = record { later = omega (arith, c.loop-at.invariant.same, c.in-Err.ensures.cause.later); kept = tt; failed = omega (arith, c.loop-at.invariant.same, c.in-Err.ensures.cause.failed) };
}
