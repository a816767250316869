use Rattle.std.proofs.Common.{ap, arith}
use Rattle.lg_selr_values.specs.Items.{words_in}
use Rattle.lg_selr_values.proofs.NumberLemmas.{long_room}
use Rattle.lg_selr_values.proofs.numbers.put_long.Goals as goal

pub put_low-requires : goal.put_low-requires
put_low-requires c =
    let e = ap words_in c.put_wide.ensures in
    let r = long_room c.args.items.now c.args.rd c.args.value c.above.result c.above.ensures c.requires in
    omega (arith, e, r)
