use Rattle.std.proofs.Common.{ap, arith}
use Rattle.lg_selr_values.specs.Items.{words_in}
use Rattle.lg_selr_values.proofs.EmissionLemmas.{second_words}
use Rattle.lg_selr_values.proofs.values.carry_items.Goals as goal

pub carry_code-requires : goal.carry_code-requires
carry_code-requires c = let e = ap words_in c.second_items.ensures in let w = second_words c.args.items.now c.args.x in omega (arith, e, w)
