-- Items whose instructions are in range, write no register outside of the conventions, and are each followed by the next.
use Rattle.std.specs.Prelude.{◌≡◌, ℕ, ◌<◌, false, List}
use Rattle.lg_base.specs.declared.target.Target.TheVariants.{X86_64}
use Rattle.lg_carry.specs.Outside.{is_outside}
use Rattle.lg_selx_values.specs.Processor.Destinations.{WritesWithin}
use Rattle.lg_selx_values.specs.Processor.X86Rows.{is_straight}
use Rattle.lg_x86.specs.Spelling.{IsInstr}
use Rattle.lg_x86.specs.declared.instruction.Instr.{Instr}
use Rattle.lg_sel.specs.GoodItems as good_items
use Rattle.lg_sel.specs.Holes.{Each}
use Rattle.lg_selx_values.specs.declared.items.Item.{Item}
use Rattle.lg_selx_values.specs.declared.items.Item.TheVariants.{One, Jump, Address}
use Rattle.lg_selx_values.specs.Items.{x86_holes, IsItem, StaysWithin}

-- a register that there is, and that is not outside of the conventions
abbrev pub Fine : ℕ → Type 0
Fine reg = (reg < 16) × (is_outside X86_64 false reg ≡ false)

abbrev pub IsGood : Instr → Type 0
IsGood i = good_items.IsGood IsInstr (WritesWithin false) is_straight i

abbrev pub AreGood : List Instr → Type 0
AreGood is = Each IsGood is

-- a jump is not followed by the next
abbrev pub IsGoodItem : Item → Type 0
IsGoodItem (One i) = IsGood i
IsGoodItem (Jump kind label) = ⊥
IsGoodItem (Address reg label) = Fine reg

-- what is asked of items that are appended, but for their number and the labels that they name
abbrev pub AreAppendable : List Item → Type 0
AreAppendable items = good_items.AreAppendable x86_holes is_straight IsItem (StaysWithin false) items

abbrev pub GoodItemsAreAppendable : Type 0
GoodItemsAreAppendable = good_items.GoodItemsAreAppendable x86_holes is_straight IsItem (StaysWithin false) IsGoodItem
