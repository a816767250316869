use Rattle.std.proofs.Common.{ap, arith}
use Rattle.lg_carry.specs.Memory.Accesses.{address_of}
use Rattle.lg_selr_values.specs.Items.{words_in}
use Rattle.lg_selr.proofs.OfMemory.EmissionLemmas.{place_words}
use Rattle.lg_selr.proofs.memory.accesses.load_code.Goals as goal

pub load_at-requires : goal.load_at-requires
load_at-requires c =
    let e = ap words_in c.put_address-base.ensures.code in
    let w = place_words c.args.items.now c.width-width.result (address_of c.args.at c.operand-first.result c.operand-second.result) in
    omega (arith, e, w, c.requires)
