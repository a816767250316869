use Rattle.std.proofs.Common.{◌≡◌, ◌<◌, ◌+◌, ◌-◌, length, sym, subst, arith}
use Rattle.lg_live.specs.Searches.{state_of, IsSwept}
use Rattle.lg_live.proofs.SweepLemmas.{swept_searches}
use Rattle.lg_live.proofs.search.swept.Goals as goal

pub settle-requires-clause-swept : goal.settle-requires-clause-swept
settle-requires-clause-swept c =
    let points = c.args.points.now in
    let s = state_of c.loop-done.search in
    let lt : c.loop-done.done < length points = omega arith in
    let e : length points - c.loop-done.done ≡ length points - 1 - c.loop-done.done + 1 = omega (arith, lt) in
    subst (λ n. IsSwept points n (length points - 1 - c.loop-done.done + 1) s) (sym c.loop-done.invariant.all)
    (subst (λ k. IsSwept points c.args.count k s) e c.loop-done.invariant)

pub loop-done-preserved : goal.loop-done-preserved
loop-done-preserved c =
    let points = c.args.points.now in
    let s = state_of c.settle.new.search in
    let e : length points - 1 - c.loop-done.done ≡ length points - (c.loop-done.done + 1) = omega arith in
    subst (λ k. IsSwept points c.args.count k s) e
    (subst (λ n. IsSwept points n (length points - 1 - c.loop-done.done) s) c.loop-done.invariant.all c.in_ok-settle.ensures)

pub returns : goal.returns
returns c =
    let points = c.args.points.now in
    let s = state_of c.loop-done.search in
    let e : length points - c.loop-done.done ≡ 0 = omega arith in
    swept_searches points c.args.count s (subst (λ k. IsSwept points c.args.count k s) e c.loop-done.invariant)
