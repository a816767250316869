use Rattle.std.proofs.Common.{true, length, ap, ◌∙◌}
use Rattle.lg_opt.specs.Remaining.{origins}
use Rattle.lg_opt.specs.Rewritings.{marked}
use Rattle.lg_opt.proofs.OriginLemmas.{origins-same}
use Rattle.lg_dead.proofs.FoldListLemmas.{shape-kept}
use Rattle.lg_dead.proofs.list.folded_list.Goals as goal

pub returns-in-Ok : goal.returns-in-Ok
returns-in-Ok c =
    let l = c.args.nodes.now in
    let s = c.in_ok-stays.stays.items in
    record {
      nodes = c.in-Ok.ensures;
      shaped = shape-kept l c.in-Ok.nodes c.args.shape.now c.in_ok-shape.shape c.requires c.in-Ok.ensures c.in_ok-shape.ensures;
      taken = ap (λ x. x.taken) c.in_ok-shape.ensures;
      from = c.in_ok-origin.ensures ∙ ap (λ xs. origins (marked xs) (length xs)) c.deref.ensures.value ∙ ap (origins (marked s)) c.in_ok-stays.ensures.count
          ∙ origins-same (marked s) (λ i. true) (length l.nodes) c.in_ok-stays.ensures.stays;
    }
