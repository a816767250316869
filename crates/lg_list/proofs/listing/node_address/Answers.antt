use Rattle.std.proofs.Common.{◌-◌, arith}
use Rattle.lg_list.proofs.ListingLemmas.{Placed-below}
use Rattle.lg_list.proofs.listing.node_address.Goals as goal

pub get-requires : goal.get-requires
get-requires c = let r = c.requires.places in let n = r.3.count in omega (arith, r.2, n)

pub overflow_add-result : goal.overflow_add-result
overflow_add-result c =
    let r = c.requires.places in
    let h = Placed-below (r.0 - c.args.index) c.args.index c.args.places.now.items r.0 r.1 (omega (arith, r.2)) r.3 in
    omega (arith, h, r.3.small, c.get.ensures)

pub returns-clause-small : goal.returns-clause-small
returns-clause-small c =
    let r = c.requires.places in
    let h = Placed-below (r.0 - c.args.index) c.args.index c.args.places.now.items r.0 r.1 (omega (arith, r.2)) r.3 in
    omega (arith, h, r.3.small, c.get.ensures)
