use Rattle.std.proofs.Common.{[], ◌∷◌, ap, arith}
use Rattle.lg_sela_values.specs.declared.items.Item.TheVariants.{One}
use Rattle.lg_sela_values.specs.Items.{words_in}
use Rattle.lg_sela_values.proofs.ItemLemmas.{words_append}
use Rattle.lg_sela_values.proofs.numbers.put_upper.Goals as goal

pub put_quarter-requires : goal.put_quarter-requires
put_quarter-requires c =
    let e = ap words_in c.one.ensures in
    let w = words_append c.args.items.now (One c.wide.result ∷ []) in
    omega (arith, e, w, c.requires)
