use Rattle.std.proofs.Common.{arith, subst, sym}
use Rattle.std.proofs.KnownBytes.{Appends-trans}
use Rattle.std.specs.Io.KnownBytes.{Appends}
use Rattle.lg_io.proofs.WroteLemmas.{AppendsPrefix-after, joined-split, joined-more}
use Rattle.lg_io.proofs.sink.write_parts.Goals as goal

pub loop-part-preserved : goal.loop-part-preserved
loop-part-preserved g c = record {
  told = subst (Appends (g.O.Sink.taken c.args.out.now) (g.O.Sink.taken c.write_all.new.out)) (sym (joined-more c.args.parts.now c.loop-part.part-index _ c.loop-part-test.true)) (Appends-trans _ (g.O.Sink.taken c.loop-part.out) _ _ _ c.loop-part.invariant.told c.in-Ok.ensures.ok);
  later = omega (arith, c.loop-part.invariant.later, c.in-Ok.ensures.cause.later);
  same = omega (arith, c.loop-part.invariant.same, c.in-Ok.ensures.cause.kept);
}

pub returns-in-Err : goal.returns-in-Err
returns-in-Err g c = record {
  ok = tt;
  err = AppendsPrefix-after _ (g.O.Sink.taken c.loop-part.out) _ _ _ _ _ (joined-split c.args.parts.now c.loop-part.part-index _ c.loop-part-test.true) c.loop-part.invariant.told c.in-Err.ensures.err;
  cause = record { later = omega (arith, c.loop-part.invariant.later, c.in-Err.ensures.cause.later); kept = tt; failed = omega (arith, c.loop-part.invariant.later, c.in-Err.ensures.cause.failed) };
}
