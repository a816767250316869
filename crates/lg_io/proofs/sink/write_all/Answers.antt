use Rattle.std.proofs.Common.{arith, subst, sym}
use Rattle.std.proofs.Math.Seq.{take-add}
use Rattle.std.proofs.lemmas.List.{take_rest}
use Rattle.std.proofs.KnownBytes.{Appends-trans}
use Rattle.std.specs.Io.KnownBytes.{Appends}
use Rattle.lg_io.proofs.sink.write_all.Goals as goal

pub loop-done-preserved : goal.loop-done-preserved
loop-done-preserved g c =
    let i = c.loop-done.invariant in
    let e = c.in_ok-done.ensures in
    record {
      within = omega arith;
      told = subst (Appends (g.O.Sink.taken c.args.out.now) (g.O.Sink.taken c.write.new.self)) (sym (take-add c.loop-done.done c.in_ok-done.field-0 c.args.bytes.now)) (Appends-trans _ (g.O.Sink.taken c.loop-done.out) _ _ _ i.told (rw take_rest at e.bytes));
      later = omega (arith, i.later, e.cause.later);
      same = omega (arith, i.same, e.cause.kept);
    }
