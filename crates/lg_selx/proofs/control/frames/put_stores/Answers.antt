use Rattle.std.proofs.Common.{◌≡◌, ◌++◌, length, refl, ap, ◌∙◌, arith}
use Rattle.std.specs.Prelude.{min, take}
use Rattle.std.proofs.lemmas.List.{length-take}
use Rattle.lg_base.specs.Conventions.{argument_registers}
use Rattle.lg_base.specs.declared.target.Target.TheVariants.{X86_64}
use Rattle.lg_sel.specs.Control.Stores.{kept_registers, home_registers}
use Rattle.lg_sel.proofs.OfControl.StoreLemmas.{first-stores, stores-fit-in, stores-put, stores-words}
use Rattle.lg_selx.specs.Control.Prologs.{store_word, stores_below}
use Rattle.lg_selx_values.specs.Items.{x86_holes, ones}
use Rattle.lg_selx_values.specs.declared.items.Item.TheVariants.{One}
use Rattle.lg_selx.proofs.control.frames.put_stores.Goals as goal

-- at most three registers are saved
pub all-requires : goal.all-requires
all-requires c =
    let room = c.requires.room in
    let few = length-take c.min.result c.saves.result in
    let three = ap length c.saves.ensures in
    (omega arith, omega (arith, room, few, three))

pub all-requires-2 : goal.all-requires-2
all-requires-2 c =
    let room = c.requires.room in
    let few = length-take c.min.result c.saves.result in
    let three = ap length c.saves.ensures in
    let fit = stores-fit-in x86_holes One (λ i. refl) store_word (argument_registers X86_64) 6 5 refl c.args.homes c.min-2.result c.min-2.ensures
    (take c.min.result c.saves.result) c.home_stores.result c.args.items.now c.all.new.self c.home_stores.ensures c.all.ensures in
    (omega arith, omega (arith, room, few, three, fit))

pub returns-clause-stored : goal.returns-clause-stored
returns-clause-stored c =
    let kept : take c.min.result c.saves.result ≡ stores_below (kept_registers X86_64 c.args.saved) 2 =
    ap (λ n. take n c.saves.result) c.min.ensures ∙ ap (take (min c.args.saved 3)) c.saves.ensures
    ∙ first-stores store_word (kept_registers X86_64 3) c.args.saved 3 2 refl in
    stores-put x86_holes One (λ i. refl) store_word (argument_registers X86_64) 6 5 refl c.args.homes c.min-2.result c.min-2.ensures
    (take c.min.result c.saves.result) c.home_stores.result c.args.items.now c.all.new.self c.home_stores.ensures c.all.ensures c.all-2.new.self c.all-2.ensures
    ∙ ap (λ xs. c.args.items.now ++ ones (xs ++ stores_below (home_registers X86_64 c.args.homes) 5)) kept

pub returns-clause-few : goal.returns-clause-few
returns-clause-few c =
    let few = length-take c.min.result c.saves.result in
    let three = ap length c.saves.ensures in
    let most = stores-words x86_holes One (λ i. refl) store_word (argument_registers X86_64) 6 5 refl c.args.homes c.min-2.result c.min-2.ensures
    (take c.min.result c.saves.result) c.home_stores.result c.args.items.now c.all.new.self c.home_stores.ensures c.all.ensures c.all-2.new.self c.all-2.ensures in
    omega (arith, few, three, most)
