use Rattle.std.proofs.Common.{◌/◌, ◌%◌, [], ◌∷◌, ap, arith}
use Rattle.lg_sela_values.specs.declared.items.Item.TheVariants.{One}
use Rattle.lg_sela_values.specs.Items.{words_in}
use Rattle.lg_sela_values.proofs.ItemLemmas.{words_append}
use Rattle.lg_sela_values.proofs.NumberItemLemmas.{quarter_words}
use Rattle.lg_sela_values.proofs.numbers.put_second.Goals as goal

pub put_quarter-requires : goal.put_quarter-requires
put_quarter-requires c =
    let e = ap words_in c.one.ensures in
    let w = words_append c.args.items.now (One c.wide.result ∷ []) in
    omega (arith, e, w, c.requires)

pub put_quarter-requires-2 : goal.put_quarter-requires-2
put_quarter-requires-2 c =
    let e = ap words_in c.one.ensures in
    let w = words_append c.args.items.now (One c.wide.result ∷ []) in
    let f = ap words_in c.put_quarter.ensures in
    let q = quarter_words c.one.new.self c.args.rd (c.args.value / 4294967296 % 65536) 2 in
    omega (arith, e, w, f, q, c.requires)
