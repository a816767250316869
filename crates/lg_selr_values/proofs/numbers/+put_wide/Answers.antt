use Rattle.std.proofs.Common.{◌<◌, sym, ap, ◌∙◌, arith}
use Rattle.lg_selr_values.specs.Items.{words_in}
use Rattle.lg_selr_values.proofs.NumberLemmas.{wide_room}
use Rattle.lg_selr_values.proofs.numbers.+put_wide.Goals as goal

pub put_low-requires : goal.put_low-requires
put_low-requires t c =
    let e = ap words_in c.put_wide.ensures in
    let some : 0 < c.args.n = omega (arith, c.if-n-eq0.false) in
    let short = sym c.is_short.ensures ∙ c.if-is_short.false in
    let half = sym c.is_half.ensures ∙ c.if-is_half.false in
    let r = wide_room c.args.items.now c.args.n c.args.rd c.args.value c.above.result some c.above.ensures short half c.requires in
    omega (arith, e, r)
