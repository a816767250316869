use Rattle.std.proofs.Common.{◌≡◌, true, false, List, Bool, ◌++◌, take, drop, length, get_or, sym, ap, ◌∙◌, inl, inr, ⊎_elim, arith}
use Rattle.lg_live.proofs.ChainLemmas.{put_back}
use Rattle.lg_live.proofs.MarkLemmas.{IsTakenBefore, one_more, all_before}
use Rattle.lg_live.specs.Points.{IsTakenBy}
use Rattle.lg_live.proofs.points.marked.Goals as goal

pub loop-label-preserved : goal.loop-label-preserved
loop-label-preserved c =
    let whole = ap length c.deref_mut.ensures.value in
    let kept : length c.mark_label.new.marks ≡ length c.loop-label.marks.items = omega (arith, whole, c.mark_label.auto.marks) in
    let back : take c.loop-label.marks.len (c.mark_label.new.marks ++ drop (length c.mark_label.new.marks) c.loop-label.marks.items) ≡ c.mark_label.new.marks =
    put_back c.mark_label.new.marks c.loop-label.marks.items c.loop-label.marks.len kept (omega (arith, whole, c.deref_mut.ensures.len)) in
    rw back record {
      count = kept ∙ c.loop-label.invariant.count;
      marked = λ k h.
          let m = c.mark_label.ensures k (omega (arith, whole, c.loop-label.invariant.count, h)) in
          let was = c.loop-label.invariant.marked k h in
          let more = one_more c.args.nodes.now c.args.shape.now k c.loop-label.label in
          let old : get_or c.deref_mut.result.now k false ≡ get_or c.loop-label.marks.items k false = ap (λ (xs : List Bool). get_or xs k false) c.deref_mut.ensures.value in (
            (λ e. more.0 (⊎_elim (λ (f : get_or c.deref_mut.result.now k false ≡ true). inl (was.0 (sym old ∙ f))) (λ (t : IsTakenBy c.args.nodes.now c.args.shape.now k c.loop-label.label). inr t) (m.0 e))),
            (λ t. m.1 (⊎_elim (λ (b : IsTakenBefore c.args.nodes.now c.args.shape.now k c.loop-label.label). inl (old ∙ was.1 b)) (λ (t : IsTakenBy c.args.nodes.now c.args.shape.now k c.loop-label.label). inr t) (more.1 t))),
          );
    }

pub returns : goal.returns
returns c = record {
  count = c.loop-label.invariant.count;
  marked = λ k h.
      let was = c.loop-label.invariant.marked k h in
      let all = all_before c.args.nodes.now c.args.shape.now k c.loop-label.label (omega (arith, c.labels-label-end.ensures.count, c.labels-label-end.ensures.places)) in
      ((λ e. all.0 (was.0 e)), (λ t. was.1 (all.1 t)));
}
