use Rattle.std.proofs.Common.{rules, ◌+◌, ◌≤◌, [], ◌∷◌, length, ap, ◌∙◌, arith}
use Rattle.lg_sel.specs.Holes.{words_in}
use Rattle.lg_sel.proofs.ListLemmas.{length_words, words_append}
use Rattle.lg_sel.proofs.items.Items.push.Goals as goal

pub push_reserved-requires : goal.push_reserved-requires
push_reserved-requires g c =
    let few = length_words g.L.Item.holes g.met.L.Item.some c.self.inside.list.items in
    let some = g.met.L.Item.some c.args.item in
    let same = ap (words_in g.L.Item.holes) c.self.view_is in
    let asked = c.requires in
    let room : length c.self.inside.list.items + 1 ≤ 64 = omega (arith, few, some, same, asked) in
    let capacity = c.self.invariant.0 in
    search rules

pub invariant_of-self : goal.invariant_of-self
invariant_of-self g c =
    let H = g.L.Item.holes in
    let same = ap (words_in H) c.self.view_is in
    let asked = c.requires in
    let sum = ap (words_in H) c.push_reserved.ensures.items ∙ words_append H c.self.inside.list.items (c.args.item ∷ []) in
    (c.push_reserved.ensures.capacity ∙ c.self.invariant.0, omega (arith, same, asked, sum))
