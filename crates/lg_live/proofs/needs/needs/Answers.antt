use Rattle.std.proofs.Common.{◌≡◌, ◌*◌, List, take, length, arith, ap, subst, ◌∙◌}
use Rattle.lg_live.specs.declared.point.Point.{Point}
use Rattle.lg_live.specs.Definitions.{feeding}
use Rattle.lg_live.specs.Graphs.{AreWanted}
use Rattle.lg_live.specs.declared.definitions.Sought.TheVariants as sought
use Rattle.lg_live.proofs.LinkLemmas.{points_within}
use Rattle.lg_live.proofs.LiveLemmas.{all_needed}
use Rattle.lg_live.proofs.needs.needs.Goals as goal

pub wanted-requires : goal.wanted-requires
wanted-requires c = rw (c.deref.ensures.value, c.len.ensures) (points_within (feeding sought.Needed) c.args.nodes.now c.args.shape.now c.in_ok-points.points.items c.in_ok-points.ensures)

pub returns : goal.returns
returns c =
    let count : c.len-2.result ≡ length c.in_ok-points.points.items = omega (arith, c.len-2.ensures, c.in_ok-points.points.ok.0) in
    all_needed c.args.nodes.now c.args.shape.now c.in_ok-points.points.items (2 * c.len.result) c.in_ok-sets.sets.items c.truncate.new.self.items c.in_ok-points.ensures
    (let P : List Point → Type 0 = λ points. AreWanted points (2 * c.len.result) c.in_ok-sets.sets.items in subst P c.deref.ensures.value c.in_ok-sets.ensures) (ap (λ n. 2 * n) c.len.ensures)
    (c.truncate.ensures.items ∙ ap (λ n. take n c.in_ok-sets.sets.items) count)
