use Rattle.std.proofs.Common.{length, map, ap, ◌∙◌, arith, rules}
use Rattle.std.proofs.lemmas.List.{length-map, places, with_items_is}
use Rattle.lg_macro.specs.Pieces.{between}
use Rattle.lg_macro.specs.PieceParts.{piece_of, moved}
use Rattle.lg_macro.proofs.RowLemmas.{inner, cut_to}
use Rattle.lg_macro.proofs.pieces.Pieces.cut_some.Goals as goal

pub cut-requires-clause-order : goal.cut-requires-clause-order
cut-requires-clause-order c =
    let bytes = c.self.inside.bytes.items in
    let parts = c.self.inside.parts.items in
    (inner bytes parts c.args.from c.args.end c.index.result.now c.index-2.result.now c.self.invariant c.requires.some
    (omega (arith, c.requires.inside, ap length c.self.view_is, length-map parts (piece_of bytes))) c.index.ensures c.index-2.ensures).order

pub move_to_front-requires : goal.move_to_front-requires
move_to_front-requires c =
    let bytes = c.self.inside.bytes.items in
    let parts = c.self.inside.parts.items in
    let i = inner bytes parts c.args.from c.args.end c.index.result.now c.index-2.result.now c.self.invariant c.requires.some
    (omega (arith, c.requires.inside, ap length c.self.view_is, length-map parts (piece_of bytes))) c.index.ensures c.index-2.ensures in
    rw (c.deref_mut.ensures.value, c.cut-2.ensures) i.between

pub invariant_of-self : goal.invariant_of-self
invariant_of-self c =
    let bytes = c.self.inside.bytes.items in
    let parts = c.self.inside.parts.items in
    let x = c.index.result.now in
    let y = c.index-2.result.now in
    let after = c.move_to_front.new.parts in
    let i = inner bytes parts c.args.from c.args.end x y c.self.invariant c.requires.some
    (omega (arith, c.requires.inside, ap length c.self.view_is, length-map parts (piece_of bytes))) c.index.ensures c.index-2.ensures in
    let cut = c.move_to_front.ensures ∙ ap (map (moved x.start 0)) (c.deref_mut.ensures.value ∙ c.cut-2.ensures) in
    let held = with_items_is c.cut-2.new.items after (search (rules, places)) in
    rw held (cut_to c.cut.new.items.items bytes after parts c.args.from c.args.end x y i c.cut.ensures cut).are

pub returns : goal.returns
returns c =
    let bytes = c.self.inside.bytes.items in
    let parts = c.self.inside.parts.items in
    let x = c.index.result.now in
    let y = c.index-2.result.now in
    let after = c.move_to_front.new.parts in
    let i = inner bytes parts c.args.from c.args.end x y c.self.invariant c.requires.some
    (omega (arith, c.requires.inside, ap length c.self.view_is, length-map parts (piece_of bytes))) c.index.ensures c.index-2.ensures in
    let cut = c.move_to_front.ensures ∙ ap (map (moved x.start 0)) (c.deref_mut.ensures.value ∙ c.cut-2.ensures) in
    let held = with_items_is c.cut-2.new.items after (search (rules, places)) in
    ap (map (piece_of c.cut.new.items.items)) held ∙ (cut_to c.cut.new.items.items bytes after parts c.args.from c.args.end x y i c.cut.ensures cut).pieces
    ∙ ap (between c.args.from c.args.end) c.self.view_is
