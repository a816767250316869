use Rattle.std.proofs.Common.{◌≡◌, ℕ, List, ◌++◌, length, refl, ap, ◌∙◌, arith}
use Rattle.std.specs.Prelude.{min, take}
use Rattle.lg_base.specs.Conventions.{argument_registers}
use Rattle.lg_base.specs.declared.target.Target.TheVariants.{Aarch64}
use Rattle.lg_a64.specs.declared.instruction.Instr.{Instr}
use Rattle.lg_sel.specs.Control.Stores.{kept_registers}
use Rattle.lg_sel.proofs.OfControl.StoreLemmas.{stores-fit-in, stores-put, stores-words, stores-long, first-few}
use Rattle.lg_sela.specs.Control.Prologs.{first_registers, store_word, stores_below}
use Rattle.lg_sela_values.specs.Processor.A64Rows.{link}
use Rattle.lg_sela_values.specs.Items.{a64_holes, ones}
use Rattle.lg_sela_values.specs.declared.items.Item.{Item}
use Rattle.lg_sela_values.specs.declared.items.Item.TheVariants.{One}
use Rattle.lg_sela.proofs.control.frames.put_stores.Goals as goal

-- those of V0 to V2 are after the link and FP
firsts-put : (first saved m : ℕ) (front back : List Instr) (old mid new : List Item) → m ≡ min saved 3 → front ≡ stores_below first (first_registers 0) 0
    → back ≡ stores_below first (kept_registers Aarch64 3) 2 → mid ≡ old ++ ones front → new ≡ mid ++ ones (take m back)
    → new ≡ old ++ ones (stores_below first (first_registers saved) 0)
firsts-put first saved m front back old mid new count front-is back-is mid-is new-is =
    stores-put a64_holes One (λ i. refl) (store_word first) (kept_registers Aarch64 3) 3 2 refl saved m count front back old mid back-is mid-is new new-is
    ∙ ap (λ xs. old ++ ones (xs ++ stores_below first (take saved (kept_registers Aarch64 3)) 2)) front-is

pub all-requires-2 : goal.all-requires-2
all-requires-2 c =
    let room = c.requires.room in
    let front = ap length c.link_stores.ensures in
    let fit = stores-fit-in a64_holes One (λ i. refl) (store_word c.args.first) (kept_registers Aarch64 3) 3 2 refl c.args.saved c.min.result c.min.ensures c.link_stores.result
    c.saves.result c.args.items.now c.all.new.self c.saves.ensures c.all.ensures in
    (omega arith, omega (arith, room, front, fit))

pub all-requires-3 : goal.all-requires-3
all-requires-3 c =
    let room = c.requires.room in
    let first : List Instr = stores_below c.args.first (first_registers c.args.saved) 0 in
    let put = firsts-put c.args.first c.args.saved c.min.result c.link_stores.result c.saves.result c.args.items.now c.all.new.self c.all-2.new.self c.min.ensures c.link_stores.ensures
    c.saves.ensures c.all.ensures c.all-2.ensures in
    let long = stores-long (store_word c.args.first) (first_registers c.args.saved) 0 in
    let few = first-few Aarch64 link c.args.saved in
    let fit = stores-fit-in a64_holes One (λ i. refl) (store_word c.args.first) (argument_registers Aarch64) 8 5 refl c.args.homes c.min-2.result c.min-2.ensures first
    c.home_stores.result c.args.items.now c.all-2.new.self c.home_stores.ensures put in
    (omega arith, omega (arith, room, long, few, fit))

pub returns-clause-stored : goal.returns-clause-stored
returns-clause-stored c =
    let put = firsts-put c.args.first c.args.saved c.min.result c.link_stores.result c.saves.result c.args.items.now c.all.new.self c.all-2.new.self c.min.ensures c.link_stores.ensures
    c.saves.ensures c.all.ensures c.all-2.ensures in
    stores-put a64_holes One (λ i. refl) (store_word c.args.first) (argument_registers Aarch64) 8 5 refl c.args.homes c.min-2.result c.min-2.ensures
    (stores_below c.args.first (first_registers c.args.saved) 0) c.home_stores.result c.args.items.now c.all-2.new.self c.home_stores.ensures put c.all-3.new.self c.all-3.ensures

pub returns-clause-few : goal.returns-clause-few
returns-clause-few c =
    let put = firsts-put c.args.first c.args.saved c.min.result c.link_stores.result c.saves.result c.args.items.now c.all.new.self c.all-2.new.self c.min.ensures c.link_stores.ensures
    c.saves.ensures c.all.ensures c.all-2.ensures in
    let long = stores-long (store_word c.args.first) (first_registers c.args.saved) 0 in
    let few = first-few Aarch64 link c.args.saved in
    let most = stores-words a64_holes One (λ i. refl) (store_word c.args.first) (argument_registers Aarch64) 8 5 refl c.args.homes c.min-2.result c.min-2.ensures
    (stores_below c.args.first (first_registers c.args.saved) 0) c.home_stores.result c.args.items.now c.all-2.new.self c.home_stores.ensures put c.all-3.new.self c.all-3.ensures in
    omega (arith, long, few, most)
