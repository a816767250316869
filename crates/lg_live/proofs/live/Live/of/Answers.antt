use Rattle.std.proofs.Common.{◌≡◌, ◌*◌, List, take, length, arith, ap, subst, ◌∙◌}
use Rattle.lg_live.specs.declared.point.Point.{Point}
use Rattle.lg_live.specs.Definitions.{feeding}
use Rattle.lg_live.specs.Graphs.{AreWanted}
use Rattle.lg_live.specs.declared.definitions.Sought.TheVariants as sought
use Rattle.lg_live.proofs.LinkLemmas.{points_within}
use Rattle.lg_live.proofs.LiveLemmas.{after_more, all_live, IsBehind, AreAfter}
use Rattle.lg_live.proofs.live.Live.of.Goals as goal

pub wanted-requires : goal.wanted-requires
wanted-requires c = rw (c.deref.ensures.value, c.len.ensures) (points_within (feeding sought.Live) c.args.nodes.now c.args.shape.now c.in_ok-points.points.items c.in_ok-points.ensures)

pub behind-requires-clause-within : goal.behind-requires-clause-within
behind-requires-clause-within c =
    rw (c.deref-in-loop-index.ensures.value, c.deref-in-loop-index-2.ensures.value, c.in_ok-before.ensures.all, c.len.ensures)
    (points_within (feeding sought.Live) c.args.nodes.now c.args.shape.now c.in_ok-points.points.items c.in_ok-points.ensures)

pub loop-index-preserved : goal.loop-index-preserved
loop-index-preserved c =
    after_more c.in_ok-points.points.items c.loop-index.after.items c.push.new.self.items c.loop-index.index c.behind.result c.loop-index.invariant
    (let P : List Point → Type 0 = λ points. IsBehind points c.behind.result c.loop-index.index in subst P c.deref-in-loop-index.ensures.value c.behind.ensures) c.in_ok-push.ensures.items

pub returns : goal.returns
returns c =
    let count : c.len-3.result ≡ length c.in_ok-points.points.items = omega (arith, c.len-3.ensures, c.in_ok-points.points.ok.0) in
    let end : c.loop-index.index ≡ length c.in_ok-points.points.items = omega (arith, c.len-index-end.ensures, c.in_ok-points.points.ok.0) in
    all_live c.args.nodes.now c.args.shape.now c.in_ok-points.points.items (2 * c.len.result) c.in_ok-before.before.items c.truncate.new.self.items c.loop-index.after.items c.in_ok-points.ensures
    (let P : List Point → Type 0 = λ points. AreWanted points (2 * c.len.result) c.in_ok-before.before.items in subst P c.deref.ensures.value c.in_ok-before.ensures) (ap (λ n. 2 * n) c.len.ensures)
    (c.truncate.ensures.items ∙ ap (λ n. take n c.in_ok-before.before.items) count)
    (subst (AreAfter c.in_ok-points.points.items c.loop-index.after.items) end c.loop-index.invariant)
