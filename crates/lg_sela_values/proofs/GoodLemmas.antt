-- Items whose instructions are in range, within the conventions and followed by the next.
use Rattle.std.proofs.Common.{◌≡◌, ℕ, ◌/◌, ◌%◌, ◌^◌, ◌<◌, Bool, true, false, List, [], ◌∷◌, ◌++◌, refl, arith}
use Rattle.std.specs.Prelude.{◌==◌, nat_lt, if◌then◌else◌}
use Rattle.lg_sela_values.specs.Processor.Numbers.{quarter_code, first_code, second_code, third_code, fourth_code, is_low, positive_code, number_code}
use Rattle.lg_sela_values.specs.Processor.A64Rows.{is_straight}
use Rattle.lg_a64.specs.declared.instruction.Instr.{Instr}
use Rattle.lg_a64.specs.declared.instruction.Instr.TheVariants.{Wide}
use Rattle.lg_a64.specs.declared.instruction.WideOp.TheVariants.{Movn, Movk}
use Rattle.lg_base.specs.Words.{complement}
use Rattle.lg_sel.specs.Holes.{Each}
use Rattle.lg_sel.proofs.GoodItemLemmas as good_items
use Rattle.lg_sel.proofs.ListLemmas as lists
use Rattle.lg_sela_values.specs.declared.items.Item.{Item}
use Rattle.lg_sela_values.specs.declared.items.Item.TheVariants.{One, Branch, CondBranch, Address}
use Rattle.lg_sela_values.specs.Items.{a64_holes, settle, ones, IsItem, StaysWithin}
use Rattle.lg_sela_values.specs.GoodItems.{Fine, IsGood, AreGood, IsGoodItem, GoodItemsAreAppendable}

-- ---- instructions
pub good-append : (xs ys : List Instr) → AreGood xs → AreGood ys → AreGood (xs ++ ys)
good-append = lists.each-append IsGood

-- the link, x30
pub link-fine : Fine 30
link-fine = (omega arith, refl)

quarter-good : (rd part hw : ℕ) → Fine rd → part < 2 ^ 16 → hw < 4 → AreGood (quarter_code rd part hw)
quarter-good rd part hw h lt few = by (part == 0)
  where
    by : (b : Bool) → AreGood (if b then [] else Wide Movk rd part hw ∷ [])
    by true = tt
    by false = (((h.0, lt, few), h.1, refl), tt)

positive-good : (rd v : ℕ) → Fine rd → AreGood (positive_code rd v)
positive-good rd v h = by (is_low v) (v % 2 ^ 32 == 0) (v % 2 ^ 48 == 0)
  where
    last : AreGood (quarter_code rd (v / 2 ^ 48 % 2 ^ 16) 3)
    last = quarter-good rd (v / 2 ^ 48 % 2 ^ 16) 3 h (omega arith) (omega arith)

    second : AreGood (quarter_code rd (v / 2 ^ 32 % 2 ^ 16) 2 ++ quarter_code rd (v / 2 ^ 48 % 2 ^ 16) 3)
    second = good-append (quarter_code rd (v / 2 ^ 32 % 2 ^ 16) 2) (quarter_code rd (v / 2 ^ 48 % 2 ^ 16) 3) (quarter-good rd (v / 2 ^ 32 % 2 ^ 16) 2 h (omega arith) (omega arith)) last

    by : (a b c : Bool) → AreGood (if a then first_code rd v else if b then (if c then fourth_code rd v else third_code rd v) else second_code rd v)
    by true b c = (
      ((h.0, omega arith, omega arith), h.1, refl),
      good-append (quarter_code rd (v / 2 ^ 16 % 2 ^ 16) 1) _ (quarter-good rd (v / 2 ^ 16 % 2 ^ 16) 1 h (omega arith) (omega arith)) second,
    )
    by false true true = (((h.0, omega arith, omega arith), h.1, refl), tt)
    by false true false = (((h.0, omega arith, omega arith), h.1, refl), last)
    by false false c = (((h.0, omega arith, omega arith), h.1, refl), second)

pub number-good : (rd v : ℕ) → Fine rd → AreGood (number_code rd v)
number-good rd v h = by (nat_lt (complement v) (2 ^ 32)) (v / 2 ^ 16 % 2 ^ 16 == 65535)
  where
    by : (a b : Bool) → AreGood (if a then Wide Movn rd (complement v % 2 ^ 16) 0 ∷ (if b then [] else Wide Movk rd (v / 2 ^ 16 % 2 ^ 16) 1 ∷ []) else positive_code rd v)
    by true true = (((h.0, omega arith, omega arith), h.1, refl), tt)
    by true false = (((h.0, omega arith, omega arith), h.1, refl), (((h.0, omega arith, omega arith), h.1, refl), tt))
    by false b = positive-good rd v h

-- ---- items
fit : (x : Item) → IsGoodItem x → IsItem x
fit (One i) h = h.0
fit (Branch op label) h = absurd h
fit (CondBranch cond label) h = absurd h
fit (Address rd label) h = h.0

stay : (x : Item) → IsGoodItem x → StaysWithin false x
stay (One i) h = h.1
stay (Branch op label) h = absurd h
stay (CondBranch cond label) h = absurd h
stay (Address rd label) h = h.1

follow : (x : Item) (to : ℕ → ℕ) (at : ℕ) → IsGoodItem x → Each (λ i. is_straight i ≡ true) (settle to at x)
follow (One i) to at h = (h.2, tt)
follow (Branch op label) to at h = absurd h
follow (CondBranch cond label) to at h = absurd h
follow (Address rd label) to at h = (refl, (refl, tt))

pub good-items-are-appendable : GoodItemsAreAppendable
good-items-are-appendable = good_items.good-items-are-appendable a64_holes is_straight IsItem (StaysWithin false) IsGoodItem fit stay follow

pub ones-good : (is : List Instr) → AreGood is → Each IsGoodItem (ones is)
ones-good = lists.each-ones IsGoodItem One IsGood (λ i h. h)

pub items-good : (xs ys : List Item) → Each IsGoodItem xs → Each IsGoodItem ys → Each IsGoodItem (xs ++ ys)
items-good = lists.each-append IsGoodItem
