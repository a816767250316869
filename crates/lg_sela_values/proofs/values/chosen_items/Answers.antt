use Rattle.std.proofs.Common.{[], ◌∷◌, ap, arith}
use Rattle.lg_sela_values.specs.declared.items.Item.TheVariants.{One}
use Rattle.lg_sela_values.specs.Items.{words_in}
use Rattle.lg_sela_values.proofs.ItemLemmas.{words_append}
use Rattle.lg_sela_values.proofs.WordLemmas.{body_words}
use Rattle.lg_sela_values.proofs.values.chosen_items.Goals as goal

pub body_items-requires : goal.body_items-requires
body_items-requires c =
    let e = ap words_in c.one.ensures in
    let w = words_append c.args.items.now (One c.save.result ∷ []) in
    omega (arith, e, w, c.requires.room)

pub one-requires-in-Spill : goal.one-requires-in-Spill
one-requires-in-Spill c =
    let e = ap words_in c.one.ensures in
    let w = words_append c.args.items.now (One c.save.result ∷ []) in
    let f = ap words_in c.body_items.ensures in
    let b = body_words c.one.new.self c.args.node.now.op c.as_slice-operands.result.now c.in-Spill.reg in
    omega (arith, e, w, f, b, c.requires.room)
