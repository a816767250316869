use Rattle.std.proofs.Common.{◌<◌, length, get_or, None, sym, ap, subst, ◌∙◌, arith}
use Rattle.lg_live.specs.Graphs.{jumps}
use Rattle.lg_live.specs.Searches.{state_of}
use Rattle.lg_live.proofs.ChainLemmas.{jumps_past, IsPassing, next_point, passing_on, passed_all, bound_falls}
use Rattle.lg_live.proofs.SearchLemmas.{grows_refl, grows_trans}
use Rattle.lg_live.proofs.search.pass_to_jumps.Goals as goal

pub loop-next-init : goal.loop-next-init
loop-next-init c = record {
  grows = grows_refl (state_of c.args.search.now);
  sound = c.requires.sound;
  passing = record {
    from = length c.args.points.now;
    few = omega arith;
    head = c.entry-next.ensures ∙ ap (λ xs. get_or xs c.args.to None) c.deref.ensures.value ∙ c.requires.chains.last c.args.to c.requires.point;
    passed = λ i le e. absurd (jumps_past c.args.points.now i c.args.to le e);
  };
}

pub pass-requires-clause-within : goal.pass-requires-clause-within
pass-requires-clause-within c =
    let p = c.loop-next.invariant.passing in
    let n = next_point c.args.points.now c.args.to c.in-Some.from p.from (sym c.in-Some.is ∙ p.head) in
    omega (arith, n.below, p.few, c.requires.within.few, c.loop-next.invariant.grows.count)

pub pass-requires-clause-arc : goal.pass-requires-clause-arc
pass-requires-clause-arc c =
    let p = c.loop-next.invariant.passing in
    let n = next_point c.args.points.now c.args.to c.in-Some.from p.from (sym c.in-Some.is ∙ p.head) in
    jumps c.in-Some.from c.args.to n.jumps

pub loop-next-smaller : goal.loop-next-smaller
loop-next-smaller c =
    let p = c.loop-next.invariant.passing in
    let n = next_point c.args.points.now c.args.to c.in-Some.from p.from (sym c.in-Some.is ∙ p.head) in
    let lt : c.in-Some.from < length c.args.points.now = omega (arith, n.below, p.few) in
    bound_falls c.args.points.now c.args.to c.in-Some.from c.entry-next-in-Some.result c.loop-next.next
    (c.entry-next-in-Some.ensures ∙ ap (λ xs. get_or xs c.in-Some.from None) c.deref-in-Some.ensures.value ∙ c.requires.chains.earlier c.in-Some.from c.args.to lt n.jumps)
    c.in-Some.is

pub loop-next-preserved : goal.loop-next-preserved
loop-next-preserved c =
    let p = c.loop-next.invariant.passing in
    let n = next_point c.args.points.now c.args.to c.in-Some.from p.from (sym c.in-Some.is ∙ p.head) in
    let lt : c.in-Some.from < length c.args.points.now = omega (arith, n.below, p.few) in
    record {
      grows = grows_trans (state_of c.args.search.now) (state_of c.loop-next.search) (state_of c.pass.new.search) c.loop-next.invariant.grows c.in_ok-pass.ensures.grows;
      sound = c.in_ok-pass.ensures.sound;
      passing = passing_on c.args.points.now c.args.to c.args.set (state_of c.loop-next.search) (state_of c.pass.new.search) c.in-Some.from c.entry-next-in-Some.result (subst (IsPassing c.args.points.now c.args.to c.args.set (state_of c.loop-next.search)) c.in-Some.is p) c.in_ok-pass.ensures.grows c.in_ok-pass.ensures.passed
          (c.entry-next-in-Some.ensures ∙ ap (λ xs. get_or xs c.in-Some.from None) c.deref-in-Some.ensures.value ∙ c.requires.chains.earlier c.in-Some.from c.args.to lt n.jumps);
    }

pub returns-clause-passed : goal.returns-clause-passed
returns-clause-passed c = passed_all c.args.points.now c.args.to c.args.set (state_of c.loop-next.search) c.loop-next.next c.loop-next.invariant.passing c.in_default.is
