use Rattle.std.proofs.Common.{◌≡◌, ℕ, ◌-◌, ◌++◌, List, length, map, take, drop, ap, ap₂, ◌∙◌, arith}
use Rattle.std.proofs.lemmas.List.{length-map}
use Rattle.lg_macro.specs.declared.pieces.Part.{Part}
use Rattle.lg_macro.specs.Pieces.{Piece, between}
use Rattle.lg_macro.specs.PieceParts.{piece_of, moved}
use Rattle.lg_macro.proofs.RowLemmas.{inner, added}
use Rattle.lg_macro.proofs.pieces.Pieces.append_some.Goals as goal

pub text_in-text-requires : goal.text_in-text-requires
text_in-text-requires c =
    let other = c.others.inside.bytes.items in
    let others = c.others.inside.parts.items in
    let i = inner other others c.args.from c.args.end c.index.result.now c.index-2.result.now c.others.invariant c.requires.some
    (omega (arith, c.requires.inside, ap length c.others.view_is, length-map others (piece_of other))) c.index.ensures c.index-2.ensures in
    record { order = i.order; inside = omega (arith, i.inside, ap length c.deref.ensures.value) }

pub push_moved-requires-clause-between : goal.push_moved-requires-clause-between
push_moved-requires-clause-between c =
    let other = c.others.inside.bytes.items in
    let others = c.others.inside.parts.items in
    let i = inner other others c.args.from c.args.end c.index.result.now c.index-2.result.now c.others.invariant c.requires.some
    (omega (arith, c.requires.inside, ap length c.others.view_is, length-map others (piece_of other))) c.index.ensures c.index-2.ensures in
    rw c.deref-2.ensures.value i.between

grown : (c : goal.After-push_moved) → c.push_moved.new.parts.items
    ≡ c.self.inside.parts.items ++ map (moved c.index.result.now.start (length c.self.inside.bytes.items)) (take (c.args.end - c.args.from) (drop c.args.from c.others.inside.parts.items))
grown c =
    c.push_moved.ensures
    ∙ ap₂ (λ (a b : List Part). a ++ b) c.reserve.ensures.items
    (ap₂ (λ (to : ℕ) (l : List Part). map (moved c.index.result.now.start to) (take (c.args.end - c.args.from) (drop c.args.from l))) (ap length c.as_slice-to.ensures.value) c.deref-2.ensures.value)

pub invariant_of-self-2 : goal.invariant_of-self-2
invariant_of-self-2 c =
    let other = c.others.inside.bytes.items in
    let others = c.others.inside.parts.items in
    let x = c.index.result.now in
    let y = c.index-2.result.now in
    let i = inner other others c.args.from c.args.end x y c.others.invariant c.requires.some
    (omega (arith, c.requires.inside, ap length c.others.view_is, length-map others (piece_of other))) c.index.ensures c.index-2.ensures in
    (added c.self.inside.bytes.items c.text_in-text.result.now c.push_text.new.bytes.items other c.self.inside.parts.items c.push_moved.new.parts.items others c.args.from c.args.end x y
    c.self.invariant i (c.text_in-text.ensures ∙ ap (λ (l : List ℕ). take (y.end - x.start) (drop x.start l)) c.deref.ensures.value) c.in_ok-push_text.ensures.items (grown c)).are

pub returns : goal.returns
returns c =
    let other = c.others.inside.bytes.items in
    let others = c.others.inside.parts.items in
    let x = c.index.result.now in
    let y = c.index-2.result.now in
    let i = inner other others c.args.from c.args.end x y c.others.invariant c.requires.some
    (omega (arith, c.requires.inside, ap length c.others.view_is, length-map others (piece_of other))) c.index.ensures c.index-2.ensures in
    (added c.self.inside.bytes.items c.text_in-text.result.now c.push_text.new.bytes.items other c.self.inside.parts.items c.push_moved.new.parts.items others c.args.from c.args.end x y
    c.self.invariant i (c.text_in-text.ensures ∙ ap (λ (l : List ℕ). take (y.end - x.start) (drop x.start l)) c.deref.ensures.value) c.in_ok-push_text.ensures.items (grown c)).pieces
    ∙ ap₂ (λ (a b : List Piece). a ++ between c.args.from c.args.end b) c.self.view_is c.others.view_is
