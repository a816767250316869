use Rattle.std.proofs.Common.{[], ◌∷◌, ap, arith}
use Rattle.lg_selr_values.specs.declared.items.Item.TheVariants.{One}
use Rattle.lg_selr_values.specs.Items.{words_in}
use Rattle.lg_selr_values.proofs.ItemLemmas.{words_append}
use Rattle.lg_selr_values.proofs.unary.swapped_code.Goals as goal

pub more_bytes_code-requires : goal.more_bytes_code-requires
more_bytes_code-requires c =
    let e = ap words_in c.all.ensures in
    let w = words_append c.args.items.now (One c.imm.result ∷ One c.imm-2.result ∷ []) in
    omega (arith, e, w, c.requires)
