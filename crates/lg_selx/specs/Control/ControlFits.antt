-- The items of these nodes fit their instructions, name the labels of their operands, and have at most one fix.
use Rattle.std.specs.Prelude.{ℕ, ◌<◌, Bool, List}
use Rattle.lg_base.specs.declared.target.Target.TheVariants.{X86_64}
use Rattle.lg_carry.specs.Outside.{moves_stack}
use Rattle.lg_op.specs.declared.node.Node.{Node}
use Rattle.lg_sel.specs.Control.Standing.{IsFit}
use Rattle.lg_sel.specs.GoodItems as good_items
use Rattle.lg_sel.specs.declared.reach.Reach.{Reach}
use Rattle.lg_selx_values.specs.declared.items.Item.{Item}
use Rattle.lg_selx_values.specs.Items.{x86_holes, IsItem, NamesOneOf, StayWithin}
use Rattle.lg_selx.specs.Control.ControlItems.{control_items}

-- the items can be appended to a buffer with this many labels, and where the node transfers control there are some
abbrev pub AreEmitted : ℕ → Bool → List Item → Type 0
AreEmitted count leaping xs = good_items.AreEmitted x86_holes IsItem NamesOneOf count leaping xs

-- in a frame whose size is a number of 31 bits
abbrev pub ControlItemsFit : Type 0
ControlItemsFit =
    (r : Reach) (n : Node) (labels frame homes saved at : ℕ) → frame < 0x40000000
    → IsFit AreEmitted n labels (control_items r n.op n.operands frame homes saved at)

-- the items write no register that is outside of the conventions
abbrev pub ControlItemsStay : Type 0
ControlItemsStay =
    (r : Reach) (n : Node) (frame homes saved at : ℕ) → StayWithin (moves_stack X86_64 n.op) (control_items r n.op n.operands frame homes saved at)
