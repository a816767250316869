use Rattle.std.proofs.Common.{rules, ◌≡◌, ◌+◌, ◌-◌, ◌++◌, [], ◌∷◌, suc, ap, ◌∙◌, arith, append_assoc}
use Rattle.lg_sel.specs.Control.Paddings.{idle}
use Rattle.lg_sel.specs.Holes.{words_in, ones}
use Rattle.lg_sel.proofs.ListLemmas.{words_append}
use Rattle.lg_sel.proofs.control.paddings.+put_idle.Goals as goal

pub put_idle-requires : goal.put_idle-requires
put_idle-requires g t c κs within =
    let H = g.L.Item.holes in
    let single = g.met.L.Item.single c.args.instr in
    let sum = ap (words_in H) c.one.ensures ∙ words_append H c.args.items.now (g.L.Item.one c.args.instr ∷ []) in
    let asked = c.requires in
    let next : words_in H c.one.new.self ≡ words_in H c.args.items.now + 1 = omega (arith, sum, single) in
    search rules

pub returns-then-count-gt0 : goal.returns-then-count-gt0
returns-then-count-gt0 g t c =
    let rest = ones g.L.Item.one (idle c.args.instr (c.args.count - 1)) in
    let some = c.if-count-gt0.true in
    let less : suc (c.args.count - 1) ≡ c.args.count = omega (arith, some) in
    c.put_idle.ensures ∙ ap (λ xs. xs ++ rest) c.one.ensures ∙ append_assoc c.args.items.now (g.L.Item.one c.args.instr ∷ []) rest
    ∙ ap (λ k. c.args.items.now ++ ones g.L.Item.one (idle c.args.instr k)) less
