use Rattle.std.proofs.Common.{◌≡◌, Bool, ◌||◌, false, List, ◌++◌, length, take, drop, get_or, sym, ap, ◌∙◌, arith}
use Rattle.lg_node.specs.Labels.{is_at}
use Rattle.lg_node.proofs.TableLemmas.{put_back, any_on}
use Rattle.lg_node.proofs.tables.labelled.Goals as goal

pub loop-label-preserved : goal.loop-label-preserved
loop-label-preserved c =
    let whole = ap length c.deref_mut.ensures.value in
    let kept : length c.mark.new.marks ≡ length c.loop-label.marks.items = omega (arith, whole, c.mark.auto.marks) in
    let back : take c.loop-label.marks.len (c.mark.new.marks ++ drop (length c.mark.new.marks) c.loop-label.marks.items) ≡ c.mark.new.marks =
    put_back c.mark.new.marks c.loop-label.marks.items c.loop-label.marks.len kept (omega (arith, whole, c.deref_mut.ensures.len)) in
    rw back record {
      count = kept ∙ c.loop-label.invariant.count;
      marks = λ i h.
          c.mark.ensures i (omega (arith, whole, c.loop-label.invariant.count, h))
          ∙ ap (λ b. b || is_at i c.place.result) (ap (λ (xs : List Bool). get_or xs i false) c.deref_mut.ensures.value ∙ c.loop-label.invariant.marks i h)
          ∙ sym (any_on (is_at i) c.args.nodes.now.places c.loop-label.label c.place.result (sym c.place.ensures.place));
    }
