use Rattle.std.proofs.Common.{◌≡◌, ◌-◌, length, ap, ◌∙◌, refl, arith}
use Rattle.lg_list.specs.Listing.{listing}
use Rattle.lg_list.specs.Lines.{first_line}
use Rattle.lg_list.proofs.WriteLemmas.{begun, went, stopped, tail_call}
use Rattle.lg_list.proofs.ListingLemmas.{nodes-step, node-lines, last-lines}
use Rattle.lg_list.proofs.listing.list.Goals as goal

pub returns-in-Err : goal.returns-in-Err
returns-in-Err g c =
    let line : c.as_slice.result.now ≡ first_line c.args.target (length c.args.code.now.items) = c.as_slice.ensures.value ∙ c.first_line-line.ensures ∙ ap (first_line c.args.target) c.len.ensures in
    stopped _ _ _ _ _ _ _ _ _ _ _ c.in-Err.fault (begun _ _ (listing c.args.target c.args.code.now.items c.args.places.now.items c.args.nodes.now)) refl line c.in-Err.ensures.err c.in-Err.ensures.cause.later c.in-Err.ensures.cause.failed

pub loop-index-init : goal.loop-index-init
loop-index-init g c =
    let line : c.as_slice.result.now ≡ first_line c.args.target (length c.args.code.now.items) = c.as_slice.ensures.value ∙ c.first_line-line.ensures ∙ ap (first_line c.args.target) c.len.ensures in
    let all : length c.args.nodes.now.nodes - 0 ≡ length c.args.nodes.now.nodes = omega arith in
    rw all (went _ _ _ _ _ _ _ _ _ _ _ (begun _ _ (listing c.args.target c.args.code.now.items c.args.places.now.items c.args.nodes.now)) refl line c.in-Ok.ensures.ok c.in-Ok.ensures.cause.kept)

pub returns-in-Err-write_node : goal.returns-in-Err-write_node
returns-in-Err-write_node g c =
    let n = node-lines c.args.target c.args.code.now.items c.args.places.now.items c.args.nodes.now c.loop-index.index _ _ c.node_address-at.ensures.address c.node_bytes-bytes.ensures.bytes in
    stopped _ _ _ _ _ _ _ _ _ _ _ c.in-Err-write_node.fault c.loop-index.invariant (nodes-step c.args.target c.args.code.now.items c.args.places.now.items c.args.nodes.now c.loop-index.index (length c.args.nodes.now.nodes) (omega (arith, c.len-index-end.ensures, c.loop-index-test.true))) n c.in-Err-write_node.ensures.err c.in-Err-write_node.ensures.cause.later c.in-Err-write_node.ensures.cause.failed

pub loop-index-preserved : goal.loop-index-preserved
loop-index-preserved g c =
    let n = node-lines c.args.target c.args.code.now.items c.args.places.now.items c.args.nodes.now c.loop-index.index _ _ c.node_address-at.ensures.address c.node_bytes-bytes.ensures.bytes in
    went _ _ _ _ _ _ _ _ _ _ _ c.loop-index.invariant (nodes-step c.args.target c.args.code.now.items c.args.places.now.items c.args.nodes.now c.loop-index.index (length c.args.nodes.now.nodes) (omega (arith, c.len-index-end.ensures, c.loop-index-test.true))) n c.in-Ok-write_node.ensures.ok c.in-Ok-write_node.ensures.cause.kept

pub returns : goal.returns
returns g c =
    let at : c.loop-index.index ≡ length c.args.nodes.now.nodes = omega (arith, c.len-index-end.ensures, c.loop-index-test.false, c.loop-index.auto.index-end) in
    let e = last-lines c.args.target c.args.code.now.items c.args.places.now.items c.args.nodes.now c.loop-index.index (length c.args.nodes.now.nodes) c.len-2.result c.len-2.result _ at c.len-2.ensures c.len-2.ensures refl in
    tail_call _ _ _ _ _ _ _ _ _ _ c.loop-index.invariant e c.write_labels.ensures
