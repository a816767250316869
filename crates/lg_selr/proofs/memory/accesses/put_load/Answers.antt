use Rattle.std.proofs.Common.{◌≡◌, [], ◌∷◌, ◌++◌, ap, arith}
use Rattle.lg_selr_values.specs.declared.items.Item.TheVariants.{One}
use Rattle.lg_selr_values.specs.Items.{words_in}
use Rattle.lg_selr.proofs.OfMemory.EmissionLemmas.{load_words}
use Rattle.lg_selr.proofs.memory.accesses.put_load.Goals as goal

pub one-requires-in-Spill : goal.one-requires-in-Spill
one-requires-in-Spill c =
    let e = ap words_in c.load_code-in-Spill.ensures in
    let w = load_words c.one.new.self c.args.t c.args.at c.args.node.now c.in-Spill.reg in
    let f = ap words_in c.one.ensures in
    let g : words_in (c.args.items.now ++ One c.save.result ∷ []) ≡ 1 = ap (λ xs. words_in (xs ++ One c.save.result ∷ [])) c.requires.empty in
    (omega arith, omega (arith, e, w, f, g))
