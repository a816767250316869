use Rattle.std.proofs.Common.{◌≡◌, ◌∙◌, length, sym, ap, subst, arith, refl}
use Rattle.std.specs.Io.KnownBytes.{Appends}
use Rattle.std.proofs.KnownBytes.{Appends-nil, Appends-trans}
use Rattle.lg_io.specs.Wrote.{AppendsPrefix}
use Rattle.lg_io.proofs.WroteLemmas.{AppendsPrefix-after}
use Rattle.lg_prof.specs.Tallies.{ran_at, spent_at}
use Rattle.lg_prof.specs.Tables.{table_below, told_line}
use Rattle.lg_prof.specs.declared.tally.Counts.{Counts}
use Rattle.lg_prof.proofs.TallyLemmas.{length_is}
use Rattle.lg_prof.proofs.WriteLemmas.{no_lines, line_more, lines_split}
use Rattle.lg_prof.proofs.tally.Tally.write.Goals as goal

pub loop-line-init : goal.loop-line-init
loop-line-init g c = record {
  told = subst (Appends (g.E.Sink.taken c.args.err.now) (g.E.Sink.taken c.args.err.now)) (sym (no_lines (ran_at c.args.self.now) (spent_at c.args.self.now))) (Appends-nil _);
  same = refl;
}

pub loop-line-preserved : goal.loop-line-preserved
loop-line-preserved g c =
    let tally = c.args.self.now in
    let line = c.loop-line.line in
    let same : told_line line c.counts-ran.result.ran c.counts-ran.result.spent ≡ told_line line (ran_at tally line) (spent_at tally line) = ap (λ (x : Counts). told_line line x.ran x.spent) c.counts-ran.ensures in
    record {
      told = subst (Appends (g.E.Sink.taken c.args.err.now) (g.E.Sink.taken c.write_line.new.err)) (sym (line_more (ran_at tally) (spent_at tally) line))
          (Appends-trans _ (g.E.Sink.taken c.loop-line.err) _ _ _ c.loop-line.invariant.told (subst (Appends (g.E.Sink.taken c.loop-line.err) (g.E.Sink.taken c.write_line.new.err)) same c.in-Ok.ensures.ok));
      same = c.in-Ok.ensures.cause.kept ∙ c.loop-line.invariant.same;
    }

pub returns-in-Err : goal.returns-in-Err
returns-in-Err g c =
    let tally = c.args.self.now in
    let line = c.loop-line.line in
    let all : length tally ≡ length c.self.inside.ran.items = length_is c.self.inside.ran.items c.self.inside.spent.items tally c.self.invariant c.self.view_is in
    let split = lines_split (ran_at tally) (spent_at tally) line (length tally) (omega (arith, all, c.loop-line-test.true, c.len-line-end.ensures)) in
    let same : told_line line c.counts-ran.result.ran c.counts-ran.result.spent ≡ told_line line (ran_at tally line) (spent_at tally line) = ap (λ (x : Counts). told_line line x.ran x.spent) c.counts-ran.ensures in
    record {
      ok = tt;
      err = AppendsPrefix-after _ (g.E.Sink.taken c.loop-line.err) _ _ _ _ _ split.1 c.loop-line.invariant.told (subst (AppendsPrefix (g.E.Sink.taken c.loop-line.err) (g.E.Sink.taken c.write_line.new.err)) same c.in-Err.ensures.err);
      cause = let kept = c.loop-line.invariant.same in record { later = omega (arith, kept, c.in-Err.ensures.cause.later); kept = tt; failed = omega (arith, kept, c.in-Err.ensures.cause.failed) };
    }

pub returns : goal.returns
returns g c =
    let tally = c.args.self.now in
    let rows = length_is c.self.inside.ran.items c.self.inside.spent.items tally c.self.invariant c.self.view_is in
    let all : c.loop-line.line ≡ length tally = omega (arith, rows, c.self.inside.ran.ok.0, c.len-line-end.ensures, c.loop-line-test.false, c.loop-line.auto.line-end) in
    let kept = c.loop-line.invariant.same in
    record {
      ok = subst (λ n. Appends (g.E.Sink.taken c.args.err.now) (g.E.Sink.taken c.loop-line.err) (table_below (ran_at tally) (spent_at tally) n)) all c.loop-line.invariant.told;
      err = tt;
      cause = record { later = omega (arith, kept); kept = kept; failed = tt };
    }
