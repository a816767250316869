use Rattle.std.proofs.Common.{◌+◌, ◌∙◌, ap, sym, length, refl, arith}
use Rattle.std.proofs.lemmas.List.{length_push}
use Rattle.lg_node.specs.ShapeLaws.{IsWellShaped}
use Rattle.lg_meaning.specs.Texts.{text}
use Rattle.lg_mean.proofs.KnownLemmas.{known}
use Rattle.lg_mean.proofs.ResolvedLemmas.{pushed_each}
use Rattle.lg_mean.proofs.labels.resolved_nodes.Goals as goal

pub resolved-node-requires-clause-known : goal.resolved-node-requires-clause-known
resolved-node-requires-clause-known c =
    let w : IsWellShaped c.args.nodes.now = c.accepted_nodes_are_well_shaped.ensures c.args.nodes.now c.requires.shape.accepted in
    known c.args.nodes.now w c.loop-index.index c.node_at.result.now (sym c.node_at.ensures.node) (length c.args.addresses.now) (c.requires.same ∙ sym c.what_holds.ensures.places)

pub loop-index-preserved : goal.loop-index-preserved
loop-index-preserved c =
    let i = c.loop-index.invariant in
    let node = c.resolved-node.result in
    let is = c.resolved-node.ensures (text c.args.nodes.now c.args.shape.now c.args.addresses.now) refl refl in
    record {
      len = ap length c.push_reserved.ensures.items ∙ length_push c.loop-index.found.items node ∙ ap (λ k. k + 1) i.len;
      room = omega (arith, i.room, c.push_reserved.ensures.capacity);
      each = λ k n q e f. pushed_each c.args.nodes.now.nodes (text c.args.nodes.now c.args.shape.now c.args.addresses.now) c.loop-index.found.items c.loop-index.index c.node_at.result.now node i.len (sym c.node_at.ensures.node) is i.each k n q e (rw c.push_reserved.ensures.items at f);
    }
