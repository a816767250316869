use Rattle.std.proofs.Common.{◌≡◌, ◌+◌, ◌≤◌, ◌++◌, ◌∷◌, ℕ, List, [], length, ap, ◌∙◌, arith}
use Rattle.std.specs.Prelude.{take, min}
use Rattle.std.proofs.lemmas.List.{length-take, take_min}
use Rattle.lg_a64.specs.declared.instruction.Instr.{Instr}
use Rattle.lg_sela.specs.Control.Returns.{kept_loads, restores, link_load}
use Rattle.lg_sela_values.specs.Items.{ones, words_in}
use Rattle.lg_sela_values.specs.declared.items.Item.{Item}
use Rattle.lg_sela_values.specs.declared.items.Item.TheVariants.{One}
use Rattle.lg_sela_values.proofs.ItemLemmas.{words_append, words-ones}
use Rattle.lg_sela.proofs.control.frames.put_restores.Goals as goal

-- this many words
long : (old : List Item) (is : List Instr) (m : ℕ) → words_in (old ++ ones (take m is)) ≤ words_in old + length is
long old is m =
    let both = words_append old (ones (take m is)) in let size = words-ones (take m is) in let few = length-take m is in omega (arith, both, size, few)

pub all-requires : goal.all-requires
all-requires c =
    let room = c.requires.room in
    let few = length-take c.min.result c.kept_loads.result in
    (omega arith, omega (arith, room, few))

pub one-requires : goal.one-requires
one-requires c =
    let room = c.requires.room in
    let words = ap words_in c.all.ensures in
    let most = long c.args.items.now c.kept_loads.result c.min.result in
    let three = ap length c.kept_loads.ensures in omega (arith, room, words, most, three)

-- the first loads are those of the registers that were saved
taken : (c : goal.After-one) → take c.min.result c.kept_loads.result ≡ restores c.args.saved
taken c = ap (λ n. take n c.kept_loads.result) c.min.ensures ∙ ap (take (min c.args.saved 3)) c.kept_loads.ensures ∙ take_min c.args.saved kept_loads

pub returns-clause-loaded : goal.returns-clause-loaded
returns-clause-loaded c =
    c.one.ensures ∙ ap (λ xs. xs ++ (One c.load.result ∷ [])) c.all.ensures
    ∙ ap (λ i. (c.args.items.now ++ ones (take c.min.result c.kept_loads.result)) ++ (One i ∷ [])) c.load.ensures
    ∙ ap (λ is. (c.args.items.now ++ ones is) ++ ones (link_load ∷ [])) (taken c)

pub returns-clause-few : goal.returns-clause-few
returns-clause-few c =
    let words = ap words_in c.one.ensures ∙ words_append c.all.new.self (One c.load.result ∷ []) in
    let front = ap words_in c.all.ensures in
    let most = long c.args.items.now c.kept_loads.result c.min.result in
    let three = ap length c.kept_loads.ensures in omega (arith, words, front, most, three)
