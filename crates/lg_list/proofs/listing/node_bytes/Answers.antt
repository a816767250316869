use Rattle.std.proofs.Common.{◌≡◌, ◌≤◌, ◌-◌, ◌+◌, length, ap, arith}
use Rattle.std.specs.Prelude.{slice_index}
use Rattle.lg_list.proofs.ListingLemmas.{Placed-below}
use Rattle.lg_list.proofs.listing.node_bytes.Goals as goal

pub slice_bounds-result-end : goal.slice_bounds-result-end
slice_bounds-result-end c =
    let r = c.requires.places in
    let below : slice_index c.args.places.now.items (c.args.index + 1) ≤ length c.args.code.now.items = Placed-below (r.0 - (c.args.index + 1)) (c.args.index + 1) c.args.places.now.items r.0 _ (omega (arith, r.1)) r.2 in
    let rise : slice_index c.args.places.now.items c.args.index ≤ slice_index c.args.places.now.items (c.args.index + 1) = r.2.rise c.args.index r.1 in
    let all : length c.as_slice.result.now ≡ length c.args.code.now.items = ap length c.as_slice.ensures.value in
    omega (arith, below, rise, all, c.get-start.ensures, c.get-end.ensures)
