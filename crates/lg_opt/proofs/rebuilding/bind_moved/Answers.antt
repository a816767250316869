use Rattle.std.proofs.Common.{◌<◌, ◌+◌, None, map, ap, ◌∙◌, arith, length, length-set, sym}
use Rattle.std.proofs.lemmas.List.{length-map}
use Rattle.std.specs.Prelude.{slice_index, slice_index_or}
use Rattle.lg_opt.specs.Remaining.{moved_place}
use Rattle.lg_opt.proofs.RebuildLemmas.{bound-next, free-next, from-parts, same-lists}
use Rattle.lg_opt.proofs.rebuilding.bind_moved.Goals as goal

pub loop-index-preserved : goal.loop-index-preserved
loop-index-preserved c =
    let f = moved_place (slice_index c.args.numbers.now) in
    let old = c.args.nodes.now.places in
    let now = c.loop-index.list.places in
    let i = c.loop-index.index in
    let n = length c.args.nodes.now.words in
    let kept = c.loop-index.invariant in
    let lt : i < n = omega (arith, c.labels-index-end.ensures.count, c.loop-index-test.true) in
    let places = ap (λ x. x.places) c.bind_at.ensures in
    record {
      nodes = ap (λ x. x.nodes) c.bind_at.ensures ∙ kept.nodes;
      words = ap (λ x. x.words) c.bind_at.ensures ∙ kept.words;
      count = ap length places ∙ length-set now i c.moved-place.result ∙ kept.count;
      done = λ k less. ap (λ ps. slice_index_or ps k None) places ∙ bound-next f old now i n c.place.result c.moved-place.result c.place.ensures.place c.moved-place.ensures kept.count lt kept.done k less;
      rest = λ k ge less. ap (λ ps. slice_index_or ps k None) places ∙ free-next f old now i n c.place.result c.moved-place.result c.place.ensures.place c.moved-place.ensures kept.count lt kept.rest k ge less;
    }

pub returns : goal.returns
returns c =
    let f = moved_place (slice_index c.args.numbers.now) in
    let old = c.args.nodes.now.places in
    let kept = c.loop-index.invariant in
    let full : length c.loop-index.list.places < c.loop-index.index + 1 = omega (arith, kept.count, c.labels-index-end.ensures.count, c.loop-index-test.false) in
    from-parts c.loop-index.list c.args.list.now.nodes c.args.list.now.words (map f old) kept.nodes kept.words
    (same-lists None c.loop-index.list.places (map f old) (kept.count ∙ sym c.labels-index-end.ensures.places ∙ sym (length-map old f)) (λ k lt. kept.done k (omega (arith, full, lt))))
