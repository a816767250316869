use Rattle.std.proofs.Common.{◌≡◌, Bool, ◌||◌, false, List, ◌++◌, length, take, drop, get_or, sym, ap, ◌∙◌, arith}
use Rattle.lg_node.specs.Labels.{names_address}
use Rattle.lg_node.proofs.TableLemmas.{put_back, any_on}
use Rattle.lg_node.proofs.taken.named.Goals as goal

pub loop-index-preserved : goal.loop-index-preserved
loop-index-preserved c =
    let whole = ap length c.deref_mut.ensures.value in
    let kept : length c.mark_node.new.marks ≡ length c.loop-index.marks.items = omega (arith, whole, c.mark_node.auto.marks) in
    let back : take c.loop-index.marks.len (c.mark_node.new.marks ++ drop (length c.mark_node.new.marks) c.loop-index.marks.items) ≡ c.mark_node.new.marks =
    put_back c.mark_node.new.marks c.loop-index.marks.items c.loop-index.marks.len kept (omega (arith, whole, c.deref_mut.ensures.len)) in
    rw back record {
      count = kept ∙ c.loop-index.invariant.count;
      marks = λ label h.
          c.mark_node.ensures label (omega (arith, whole, c.loop-index.invariant.count, h))
          ∙ ap (λ b. b || names_address label c.node_at.result.now) (ap (λ (xs : List Bool). get_or xs label false) c.deref_mut.ensures.value ∙ c.loop-index.invariant.marks label h)
          ∙ sym (any_on (names_address label) c.args.nodes.now.nodes c.loop-index.index c.node_at.result.now (sym c.node_at.ensures.node));
    }
