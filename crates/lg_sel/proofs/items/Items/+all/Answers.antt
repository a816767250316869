use Rattle.std.proofs.Common.{rules, ◌≡◌, ◌+◌, [], ◌∷◌, ap, ◌∙◌, arith}
use Rattle.lg_sel.specs.Holes.{words_in}
use Rattle.lg_sel.proofs.ListLemmas.{words_append}
use Rattle.lg_sel.proofs.items.Items.+all.Goals as goal

pub all-requires : goal.all-requires
all-requires g t c κs within =
    let H = g.L.Item.holes in
    let single = g.met.L.Item.single c.instr-item.result in
    let sum = ap (words_in H) c.one.ensures ∙ words_append H c.args.self.now (g.L.Item.one c.instr-item.result ∷ []) in
    let asked = c.requires in
    let next : words_in H c.one.new.self ≡ words_in H c.args.self.now + 1 = omega (arith, sum, single) in
    search rules
