use Rattle.std.proofs.Common.{◌<◌, [], ◌∷◌, ◌++◌, length, map, take, get_or, sym, ap, ◌∙◌, arith}
use Rattle.std.specs.Prelude.{slice_index}
use Rattle.std.proofs.lemmas.List.{take_more, map-append}
use Rattle.lg_dead.proofs.rewriting.joined_each.Goals as goal

pub loop-index-preserved : goal.loop-index-preserved
loop-index-preserved c =
    let f = slice_index c.args.first.now.items in
    let ys = c.args.second.now.items in
    let i = c.loop-index.index in
    let lt : i < length ys = omega (arith, c.loop-index-test.true, c.len-index-end.ensures) in
    record {
      items = c.push.ensures.items ∙ ap (λ xs. xs ++ c.get-in-loop-index.result ∷ []) c.loop-index.invariant.items
          ∙ ap (λ v. map f (take i ys) ++ v ∷ []) (c.get-in-loop-index.ensures ∙ ap f c.get.ensures)
          ∙ sym (ap (map f) (take_more ys i 0 lt) ∙ map-append f (take i ys) (get_or ys i 0 ∷ []));
      room = omega (arith, c.push.ensures.room, c.loop-index.invariant.room);
    }
