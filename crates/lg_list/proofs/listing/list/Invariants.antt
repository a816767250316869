use Rattle.std.proofs.Common.{◌-◌, length}
use Rattle.lg_list.specs.Listing.{nodes_from, listing}
use Rattle.lg_list.proofs.WriteLemmas.{Progress}
use Rattle.lg_list.proofs.listing.list.Given as goal

abbrev pub invariant-loop-index : goal.invariant-loop-index
invariant-loop-index g l =
    Progress (g.O.Sink.taken l.fn.out) (g.O.Sink.taken l.out) (g.O.Sink.faults l.fn.out) (g.O.Sink.faults l.out)
    (nodes_from l.target l.code.items l.places.items l.nodes l.index (length l.nodes.nodes - l.index))
    (listing l.target l.code.items l.places.items l.nodes)
