use Rattle.std.proofs.Common.{ap, arith}
use Rattle.lg_sela_values.specs.Items.{words_in}
use Rattle.lg_sela_values.proofs.NumberItemLemmas.{number_words}
use Rattle.lg_sela_values.proofs.binary.loaded_code.Goals as goal

pub register_code-requires : goal.register_code-requires
register_code-requires c =
    let e = ap words_in c.put_number.ensures in
    let w = number_words c.args.items.now c.second_register-second.result c.args.value in
    omega (arith, e, w, c.requires)
