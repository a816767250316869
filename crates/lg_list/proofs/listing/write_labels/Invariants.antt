use Rattle.std.proofs.Common.{◌+◌, length}
use Rattle.std.specs.Prelude.{slice_index}
use Rattle.lg_base.specs.Layout.{code_base}
use Rattle.lg_list.specs.Lines.{rendered}
use Rattle.lg_list.specs.Listing.{labels_at}
use Rattle.lg_list.proofs.NextLemmas.{left, IsFound, ahead}
use Rattle.lg_list.proofs.WriteLemmas.{Progress}
use Rattle.lg_list.proofs.listing.write_labels.Given as goal

abbrev pub invariant-loop-next : goal.invariant-loop-next
invariant-loop-next g l = record {
  found : IsFound l.nodes.list.now.places l.index l.next;
  written : Progress (g.O.Sink.taken l.fn.out) (g.O.Sink.taken l.out) (g.O.Sink.faults l.fn.out) (g.O.Sink.faults l.out)
      (rendered (code_base + slice_index l.nodes.places.now.items l.index) (left l.index l.nodes.list.now.words l.nodes.list.now.places l.next))
      (rendered (code_base + slice_index l.nodes.places.now.items l.index) (labels_at l.index l.nodes.list.now.words l.nodes.list.now.places));
}

abbrev pub decreases-loop-next : goal.decreases-loop-next
decreases-loop-next g l = ahead (length l.nodes.list.now.words) l.next
