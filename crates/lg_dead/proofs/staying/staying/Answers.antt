use Rattle.std.proofs.Common.{◌+◌, sym, ap, ◌∙◌, length, length-append, [], ◌∷◌}
use Rattle.lg_dead.specs.Dead.{stays, needs_in}
use Rattle.lg_dead.proofs.StayingLemmas.{more-stays, same-needs}
use Rattle.lg_dead.proofs.staying.staying.Goals as goal

pub loop-index-preserved : goal.loop-index-preserved
loop-index-preserved c =
    let l = c.args.nodes.now in
    let sets = c.args.needs.now in
    let i = c.loop-index.index in
    let stay = same-needs sets l i c.node-node.result c.needed_at-next.result c.stays_here.result c.needed_at-next.ensures c.node-node.ensures.node c.stays_here.ensures in
    let grown = c.in_ok-push.ensures.items in
    record {
      count = ap length grown ∙ length-append c.loop-index.table.items (c.stays_here.result ∷ []) ∙ ap (λ k. k + 1) c.loop-index.invariant.count;
      stays = rw grown (more-stays l sets c.loop-index.table.items c.stays_here.result c.loop-index.invariant.stays (stay ∙ ap (stays (needs_in sets) l) (sym c.loop-index.invariant.count)));
    }
