use Rattle.std.proofs.Common.{rules, ◌≡◌, length, take, drop, ◌++◌, refl, add-one, ap, ◌∙◌, arith}
use Rattle.lg_live.specs.Graphs.{point_at}
use Rattle.lg_live.proofs.ChainLemmas.{linked_on, linked_start, put_back}
use Rattle.lg_live.proofs.chains.linked.Goals as goal

pub loop-index-init : goal.loop-index-init
loop-index-init c = linked_start c.args.points.now c.args.count c.in_ok-last.last.items c.in_ok-earlier.earlier.items (c.in_ok-last.ensures.items_if_clones_equal (λ y p. search rules)) c.in_ok-earlier.ensures.items

pub loop-index-preserved : goal.loop-index-preserved
loop-index-preserved c =
    let whole = ap length c.deref_mut.ensures.value in
    let back : take c.loop-index.last.len (c.link.new.last ++ drop (length c.link.new.last) c.loop-index.last.items) ≡ c.link.new.last =
    put_back c.link.new.last c.loop-index.last.items c.loop-index.last.len (omega (arith, whole, c.link.auto.last)) (omega (arith, whole, c.deref_mut.ensures.len)) in
    rw (back, c.in_ok-push.ensures.items, add-one)
    (linked_on c.args.points.now c.args.count c.loop-index.index c.loop-index.last.items c.loop-index.earlier.items c.loop-index.invariant c.requires (point_at c.args.points.now c.loop-index.index).jumps refl c.link.result c.link.new.last
    (λ k e lt.
    let h = c.link.ensures.linked k (c.jumps.ensures ∙ e) (rw c.deref_mut.ensures.value lt) in
    (rw (← c.deref_mut.ensures.value) h.0, rw (← c.deref_mut.ensures.value) h.1))
    (λ e. c.link.ensures.none (c.jumps.ensures ∙ e) ∙ c.deref_mut.ensures.value))
