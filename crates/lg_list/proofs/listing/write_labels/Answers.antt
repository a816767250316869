use Rattle.std.proofs.Common.{◌≡◌, ◌+◌, ◌∷◌, drop, ap, sym, ◌∙◌, subst, arith}
use Rattle.std.specs.Prelude.{slice_index}
use Rattle.std.proofs.lemmas.Option.{slice_get_within}
use Rattle.lg_base.specs.Layout.{code_base}
use Rattle.lg_node.specs.NextLabels.{NextAt}
use Rattle.lg_list.specs.Lines.{rendered, label_line}
use Rattle.lg_list.specs.Lines.Entry.{Label}
use Rattle.lg_list.specs.Listing.{labels_at}
use Rattle.lg_list.proofs.WriteLemmas.{Progress, begun, went, stopped}
use Rattle.lg_list.proofs.ListingLemmas.{rendered-label}
use Rattle.lg_list.proofs.NextLemmas.{IsFound, left, found-of, left-from, left-step, labels-here, NextAt-address, address-is}
use Rattle.lg_list.proofs.listing.write_labels.Goals as goal

pub loop-next-init : goal.loop-next-init
loop-next-init g c =
    let l = c.args.nodes.list.now in
    let at = code_base + slice_index c.args.nodes.places.now.items c.args.index in
    let first = left-from c.args.index 0 l.words l.places c.first_at-next.result (sym c.what_holds.ensures.places) (omega arith) c.first_at-next.ensures.found c.first_at-next.ensures.none in
    record {
      found = found-of l.places c.args.index 0 c.first_at-next.result c.first_at-next.ensures.found;
      written = subst (λ es. Progress (g.O.Sink.taken c.args.out.now) (g.O.Sink.taken c.args.out.now) (g.O.Sink.faults c.args.out.now) (g.O.Sink.faults c.args.out.now) (rendered at es) (rendered at (labels_at c.args.index l.words l.places))) first (begun _ _ (rendered at (labels_at c.args.index l.words l.places)));
    }

pub get-address-requires : goal.get-address-requires
get-address-requires g c =
    let l = c.args.nodes.list.now in
    let here : NextAt l.places c.args.index c.in-Some.label.0 c.in-Some.label.0 = subst (IsFound l.places c.args.index) c.in-Some.is c.loop-next.invariant.found in
    let e = NextAt-address c.args.index c.in-Some.label.0 c.in-Some.label.0 l.places c.args.nodes.places.now.items c.args.nodes.labels.now c.requires.addressed here in
    slice_get_within c.args.nodes.labels.now c.in-Some.label.0 _ e

pub overflow_cast-address : goal.overflow_cast-address
overflow_cast-address g c =
    let l = c.args.nodes.list.now in
    let here : NextAt l.places c.args.index c.in-Some.label.0 c.in-Some.label.0 = subst (IsFound l.places c.args.index) c.in-Some.is c.loop-next.invariant.found in
    let e = NextAt-address c.args.index c.in-Some.label.0 c.in-Some.label.0 l.places c.args.nodes.places.now.items c.args.nodes.labels.now c.requires.addressed here in
    omega (arith, address-is c.in-Some.label.0 _ c.args.nodes.labels.now e, c.get-address.ensures, c.requires.small)

pub loop-next-preserved : goal.loop-next-preserved
loop-next-preserved g c =
    let l = c.args.nodes.list.now in
    let at = code_base + slice_index c.args.nodes.places.now.items c.args.index in
    let here : NextAt l.places c.args.index c.in-Some.label.0 c.in-Some.label.0 = subst (IsFound l.places c.args.index) c.in-Some.is c.loop-next.invariant.found in
    let found = c.next_at-next.ensures.found c.args.index here.bound in
    let none = c.next_at-next.ensures.none c.args.index here.bound in
    let step = left-step c.args.index l.words l.places _ c.in-Some.label c.next_at-next.result (sym c.what_holds.ensures.places) here c.word.ensures.text found none in
    let split = ap (λ o. rendered at (left c.args.index l.words l.places o)) c.in-Some.is ∙ ap (rendered at) step ∙ rendered-label at _ _ in
    let e = NextAt-address c.args.index c.in-Some.label.0 c.in-Some.label.0 l.places c.args.nodes.places.now.items c.args.nodes.labels.now c.requires.addressed here in
    let same = c.get-address.ensures ∙ address-is c.in-Some.label.0 _ c.args.nodes.labels.now e in
    record {
      found = found-of l.places c.args.index (c.in-Some.label.0 + 1) c.next_at-next.result found;
      written = went _ _ _ _ _ _ _ _ _ _ _ c.loop-next.invariant.written split (ap (λ a. label_line a c.word.result.now) same) c.in-Ok.ensures.ok c.in-Ok.ensures.cause.kept;
    }

pub returns-in-Err : goal.returns-in-Err
returns-in-Err g c =
    let l = c.args.nodes.list.now in
    let at = code_base + slice_index c.args.nodes.places.now.items c.args.index in
    let here : NextAt l.places c.args.index c.in-Some.label.0 c.in-Some.label.0 = subst (IsFound l.places c.args.index) c.in-Some.is c.loop-next.invariant.found in
    let step : labels_at c.args.index (drop c.in-Some.label.0 l.words) (drop c.in-Some.label.0 l.places) ≡ Label c.word.result.now ∷ labels_at c.args.index (drop (c.in-Some.label.0 + 1) l.words) (drop (c.in-Some.label.0 + 1) l.places) =
    labels-here c.args.index l.words l.places c.word.result.now c.in-Some.label.0 here c.word.ensures.text in
    let split = ap (λ o. rendered at (left c.args.index l.words l.places o)) c.in-Some.is ∙ ap (rendered at) step ∙ rendered-label at _ _ in
    let e = NextAt-address c.args.index c.in-Some.label.0 c.in-Some.label.0 l.places c.args.nodes.places.now.items c.args.nodes.labels.now c.requires.addressed here in
    let same = c.get-address.ensures ∙ address-is c.in-Some.label.0 _ c.args.nodes.labels.now e in
    stopped _ _ _ _ _ _ _ _ _ _ _ c.in-Err.fault c.loop-next.invariant.written split (ap (λ a. label_line a c.word.result.now) same) c.in-Err.ensures.err c.in-Err.ensures.cause.later c.in-Err.ensures.cause.failed

pub next_at-next-requires-clause-bound : goal.next_at-next-requires-clause-bound
next_at-next-requires-clause-bound g c =
    let here : NextAt c.args.nodes.list.now.places c.args.index c.in-Some.label.0 c.in-Some.label.0 = subst (IsFound c.args.nodes.list.now.places c.args.index) c.in-Some.is c.loop-next.invariant.found in
    (c.args.index, here.bound)
