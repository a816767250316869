use Rattle.std.proofs.Common.{◌<◌, [], ◌∷◌, ap, arith}
use Rattle.lg_selr_values.specs.declared.items.Item.TheVariants.{One}
use Rattle.lg_selr_values.specs.Items.{words_in}
use Rattle.lg_selr_values.proofs.ItemLemmas.{words_append}
use Rattle.lg_selr_values.proofs.unary.+more_bytes_code.Goals as goal

pub more_bytes_code-requires : goal.more_bytes_code-requires
more_bytes_code-requires t c =
    let e = ap words_in c.all.ensures in
    let w = words_append c.args.items.now (One c.shift.result ∷ One c.imm.result ∷ One c.shift-then-n-gt0.result ∷ One c.row.result ∷ []) in
    let some : 0 < c.args.n = c.if-n-gt0.true in
    (omega (arith, some, c.decreases), omega (arith, e, w, some, c.requires))
