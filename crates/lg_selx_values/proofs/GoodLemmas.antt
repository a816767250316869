-- Items whose instructions are in range, within the conventions and followed by the next.
use Rattle.std.proofs.Common.{◌≡◌, ℕ, ◌^◌, ◌<◌, Bool, true, false, List, ◌++◌, refl}
use Rattle.std.specs.Prelude.{nat_lt, if◌then◌else◌}
use Rattle.lg_base.specs.Words.{signed_view, is_half}
use Rattle.lg_selx_values.specs.Processor.Destinations.{WritesWithin}
use Rattle.lg_selx_values.specs.Processor.Numbers.{number_row}
use Rattle.lg_selx_values.specs.Processor.X86Rows.{is_straight}
use Rattle.lg_selx_values.proofs.OfProcessor.NumberCodeLemmas.{row-loads}
use Rattle.lg_x86.specs.declared.instruction.Instr.{Instr}
use Rattle.lg_x86.specs.declared.instruction.Instr.TheVariants.{Movi32, Movs32, Movi64}
use Rattle.lg_sel.specs.Holes.{Each}
use Rattle.lg_sel.proofs.GoodItemLemmas as good_items
use Rattle.lg_sel.proofs.ListLemmas as lists
use Rattle.lg_selx_values.specs.declared.items.Item.{Item}
use Rattle.lg_selx_values.specs.declared.items.Item.TheVariants.{One, Jump, Address}
use Rattle.lg_selx_values.specs.Items.{x86_holes, settle, ones, IsItem, StaysWithin}
use Rattle.lg_selx_values.specs.GoodItems.{Fine, IsGood, AreGood, IsGoodItem, GoodItemsAreAppendable}
use Rattle.lg_selx_values.proofs.WithinLemmas.{In}

-- ---- instructions
pub good-append : (xs ys : List Instr) → AreGood xs → AreGood ys → AreGood (xs ++ ys)
good-append = lists.each-append IsGood

pub number-within : (r v : ℕ) → In r → WritesWithin false (number_row r v)
number-within r v h = by (nat_lt v (2 ^ 32)) (is_half v)
  where
    by : (b c : Bool) → WritesWithin false (if b then Movi32 r v else if c then Movs32 r (signed_view v) else Movi64 r v)
    by true c = (h, tt)
    by false true = (h, tt)
    by false false = (h, tt)

pub number-good : (r v : ℕ) → Fine r → v < 2 ^ 64 → IsGood (number_row r v)
number-good r v h small = let l = row-loads r v h.0 small in (l.fits, number-within r v h.1, l.straight)

-- ---- items
fit : (x : Item) → IsGoodItem x → IsItem x
fit (One i) h = h.0
fit (Jump kind label) h = absurd h
fit (Address reg label) h = h.0

stay : (x : Item) → IsGoodItem x → StaysWithin false x
stay (One i) h = h.1
stay (Jump kind label) h = absurd h
stay (Address reg label) h = h.1

follow : (x : Item) (to : ℕ → ℕ) (at : ℕ) → IsGoodItem x → Each (λ i. is_straight i ≡ true) (settle to at x)
follow (One i) to at h = (h.2, tt)
follow (Jump kind label) to at h = absurd h
follow (Address reg label) to at h = (refl, tt)

pub good-items-are-appendable : GoodItemsAreAppendable
good-items-are-appendable = good_items.good-items-are-appendable x86_holes is_straight IsItem (StaysWithin false) IsGoodItem fit stay follow

pub ones-good : (is : List Instr) → AreGood is → Each IsGoodItem (ones is)
ones-good = lists.each-ones IsGoodItem One IsGood (λ i h. h)
