use Rattle.std.proofs.Common.{◌+◌, ◌-◌, ◌/◌, ◌<◌, ◌≤◌, arith}
use Rattle.std.specs.Prelude.{slice_index}
use Rattle.lg_prof.proofs.LineLemmas.{later_at}
use Rattle.lg_prof.proofs.places.node_at.Goals as goal

pub loop-low-preserved-then-get-place : goal.loop-low-preserved-then-get-place
loop-low-preserved-then-get-place c =
    let i = c.loop-low.invariant in
    let places = c.args.places.now.items in
    let middle = c.loop-low.low + (c.loop-low.high - c.loop-low.low) / 2 in
    let half : (c.loop-low.high - c.loop-low.low) / 2 < c.loop-low.high - c.loop-low.low = grind (arith, c.loop-low-test.true) in
    let within = i.within in
    let here : slice_index places middle ≤ c.args.place = rw c.get.ensures at c.if-get-place.true in
    record {
      order = omega (arith, half);
      within = within;
      before = λ k lt.
          let le : slice_index places k ≤ slice_index places middle = later_at places c.requires k middle (omega (arith, lt)) (omega (arith, half, within)) in
          omega (arith, le, here);
      behind = i.behind;
    }

pub loop-low-preserved : goal.loop-low-preserved
loop-low-preserved c =
    let i = c.loop-low.invariant in
    let places = c.args.places.now.items in
    let middle = c.loop-low.low + (c.loop-low.high - c.loop-low.low) / 2 in
    let half : (c.loop-low.high - c.loop-low.low) / 2 < c.loop-low.high - c.loop-low.low = grind (arith, c.loop-low-test.true) in
    let within = i.within in
    let here : c.args.place < slice_index places middle = rw c.get.ensures at c.if-get-place.false in
    record {
      order = omega arith;
      within = omega (arith, half, within);
      before = i.before;
      behind = λ k le lt.
          let more : slice_index places middle ≤ slice_index places k = later_at places c.requires middle k le lt in
          omega (arith, more, here);
    }
