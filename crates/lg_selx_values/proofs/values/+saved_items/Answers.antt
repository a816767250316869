use Rattle.std.proofs.Common.{ap, arith}
use Rattle.lg_selx_values.specs.Items.{words_in}
use Rattle.lg_selx_values.proofs.EmissionLemmas.{one_words}
use Rattle.lg_selx_values.proofs.RoomLemmas.{rest_slots, rest_count}
use Rattle.lg_selx_values.proofs.values.+saved_items.Goals as goal

pub saved_items-requires : goal.saved_items-requires
saved_items-requires t c =
    let some = c.in-Spill.len_at_least in
    let count = rest_count c.args.choices.now some in
    let e = ap words_in c.one.ensures in
    let w = one_words c.args.items.now c.save.result in
    (omega (arith, count), (c.requires.low, (c.requires.high, (rest_slots c.args.choices.now some c.requires.slots, omega (arith, count, e, w, c.requires.room)))))
