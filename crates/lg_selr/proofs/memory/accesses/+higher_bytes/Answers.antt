use Rattle.std.proofs.Common.{◌<◌, [], ◌∷◌, ap, arith}
use Rattle.lg_selr_values.specs.declared.items.Item.TheVariants.{One}
use Rattle.lg_selr_values.specs.Items.{words_in}
use Rattle.lg_selr_values.proofs.ItemLemmas.{words_append}
use Rattle.lg_selr.proofs.memory.accesses.+higher_bytes.Goals as goal

pub higher_bytes-requires : goal.higher_bytes-requires
higher_bytes-requires t c =
    let e = ap words_in c.all.ensures in
    let w = words_append c.args.items.now (One c.shift.result ∷ One c.store_byte.result ∷ []) in
    let some : 0 < c.args.count = c.if-count-gt0.true in
    (omega (arith, some, c.decreases), (omega (arith, some, c.requires.few), omega (arith, e, w, some, c.requires.room)))
