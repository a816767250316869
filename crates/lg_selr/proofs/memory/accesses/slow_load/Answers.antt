use Rattle.std.proofs.Common.{[], ◌∷◌, ap, arith}
use Rattle.lg_selr_values.specs.declared.items.Item.TheVariants.{One}
use Rattle.lg_selr_values.specs.Items.{words_in}
use Rattle.lg_selr_values.proofs.ItemLemmas.{words_append}
use Rattle.lg_selr.proofs.OfMemory.AccessFitLemmas.{narrow}
use Rattle.lg_selr.proofs.memory.accesses.slow_load.Goals as goal

pub lower_bytes-requires-clause-room : goal.lower_bytes-requires-clause-room
lower_bytes-requires-clause-room c =
    let e = ap words_in c.all.ensures in
    let w = words_append c.args.items.now (One c.imm.result ∷ One c.imm-2.result ∷ []) in
    let few = narrow c.args.t in
    let is = c.width-rest.ensures.value in
    omega (arith, e, w, few, is, c.requires)
