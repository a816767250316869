use Rattle.std.proofs.Common.{ap, arith}
use Rattle.lg_selr_values.specs.Processor.Numbers.{number_code}
use Rattle.lg_selr_values.specs.Items.{words_in}
use Rattle.lg_selr_values.proofs.EmissionLemmas.{words_more, number_few}
use Rattle.lg_selr_values.proofs.binary.loaded_code.Goals as goal

pub register_code-requires : goal.register_code-requires
register_code-requires c =
    let e = ap words_in c.put_number.ensures in
    let w = words_more c.args.items.now (number_code 1 c.args.value) in
    let f = number_few 1 c.args.value in
    omega (arith, e, w, f)
