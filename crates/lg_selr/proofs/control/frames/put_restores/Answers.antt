use Rattle.std.proofs.Common.{length, ap, ◌∙◌, arith}
use Rattle.std.specs.Prelude.{take}
use Rattle.std.proofs.lemmas.List.{length-take}
use Rattle.lg_selr_values.specs.Items.{words_in, ones}
use Rattle.lg_selr_values.proofs.ItemLemmas.{words_append, words-ones}
use Rattle.lg_selr.proofs.control.frames.put_restores.Goals as goal

pub returns-clause-few : goal.returns-clause-few
returns-clause-few c =
    let both = ap words_in c.all.ensures ∙ words_append c.args.items.now (ones (take c.min.result c.restores.result)) in
    let size = words-ones (take c.min.result c.restores.result) in
    let long = ap length c.restores.ensures in
    let few = length-take c.min.result c.restores.result in
    omega (arith, both, size, long, few)
