-- Items whose instructions are in range, within the conventions and followed by the next.
use Rattle.std.proofs.Common.{◌≡◌, ℕ, true, false, List, [], ◌∷◌, ◌++◌, refl, arith}
use Rattle.std.specs.List.{All}
use Rattle.std.proofs.lemmas.List.Elements.{All-head, All-tail}
use Rattle.lg_selr_values.specs.Processor.Numbers.{number_code}
use Rattle.lg_selr_values.specs.Processor.RvRows.{is_straight}
use Rattle.lg_selr_values.proofs.OfProcessor.NumberCodeLemmas.{number-fits}
use Rattle.lg_rv.specs.Spelling.{IsInstr}
use Rattle.lg_rv.specs.declared.instruction.Instr.{Instr}
use Rattle.lg_sel.specs.Holes.{Each}
use Rattle.lg_sel.proofs.GoodItemLemmas as good_items
use Rattle.lg_sel.proofs.ListLemmas as lists
use Rattle.lg_selr_values.specs.declared.items.Item.{Item}
use Rattle.lg_selr_values.specs.declared.items.Item.TheVariants.{One, Address}
use Rattle.lg_selr_values.specs.Items.{rv_holes, settle, ones, IsItem, StaysWithin}
use Rattle.lg_selr_values.specs.GoodItems.{Fine, IsGood, AreGood, IsGoodItem, GoodItemsAreAppendable}
use Rattle.lg_selr_values.proofs.NumberLemmas.{number-each}
use Rattle.lg_selr_values.proofs.WithinLemmas.{Within, number}

-- ---- instructions
pub good-append : (xs ys : List Instr) → AreGood xs → AreGood ys → AreGood (xs ++ ys)
good-append = lists.each-append IsGood

-- x1 and x31
pub link-fine : Fine 1
link-fine = (omega arith, refl)

pub carry-fine : Fine 31
carry-fine = (omega arith, refl)

pub number-good : (rd v : ℕ) → Fine rd → AreGood (number_code rd v)
number-good rd v h = all (number_code rd v) (number-fits rd v h.0) (number rd v h.1) (number-each rd (λ i. is_straight i ≡ true) record { high = λ v. refl; half = λ v. refl; low = λ rs v. refl; up = refl } v)
  where
    Straight : List Instr → Type 0
    Straight is = Each (λ i. is_straight i ≡ true) is

    all : (is : List Instr) → All IsInstr is → Within is → Straight is → AreGood is
    all [] f w s = tt
    all (i ∷ is) f w s = ((All-head IsInstr i is f, w.0, s.0), all is (All-tail IsInstr i is f) w.1 s.1)

-- ---- items
fit : (x : Item) → IsGoodItem x → IsItem x
fit (One i) h = h.0
fit (Address rd label) h = h.0
fit x h = absurd h

stay : (x : Item) → IsGoodItem x → StaysWithin false x
stay (One i) h = h.1
stay (Address rd label) h = h.1
stay x h = absurd h

follow : (x : Item) (to : ℕ → ℕ) (at : ℕ) → IsGoodItem x → Each (λ i. is_straight i ≡ true) (settle to at x)
follow (One i) to at h = (h.2, tt)
follow (Address rd label) to at h = (refl, (refl, tt))
follow x to at h = absurd h

pub good-items-are-appendable : GoodItemsAreAppendable
good-items-are-appendable = good_items.good-items-are-appendable rv_holes is_straight IsItem (StaysWithin false) IsGoodItem fit stay follow

pub ones-good : (is : List Instr) → AreGood is → Each IsGoodItem (ones is)
ones-good = lists.each-ones IsGoodItem One IsGood (λ i h. h)

pub items-good : (xs ys : List Item) → Each IsGoodItem xs → Each IsGoodItem ys → Each IsGoodItem (xs ++ ys)
items-good = lists.each-append IsGoodItem
