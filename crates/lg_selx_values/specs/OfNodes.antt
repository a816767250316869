-- Code, some items of which are those of a node.
use Rattle.std.specs.Prelude.{◌≡◌, ℕ, ◌<◌, true, List, slice_get, slice_index}
use Rattle.lg_carry.specs.Blocks.{IsBlock}
use Rattle.lg_carry.specs.Carries.{leaps_at}
use Rattle.lg_carry.specs.FinalNodes.{Code}
use Rattle.lg_carry.specs.Passages.{IsNodeCode}
use Rattle.lg_selx_values.specs.Processor.Destinations.{WritesWithin}
use Rattle.lg_selx_values.specs.Processor.Places.{IsInCode}
use Rattle.lg_selx_values.specs.Processor.X86Rows.{x86_rows, is_straight}
use Rattle.lg_x86.specs.Spelling.{IsInstr}
use Rattle.lg_sel.specs.NodeItems as node_items
use Rattle.lg_selx_values.specs.declared.items.Item.{Item}
use Rattle.lg_selx_values.specs.Items.{x86_holes, IsItem, words_in, settled}

-- the code that the processor runs, in which the instructions of these items, with the addresses of the labels, are those of node i; they write no
-- register that is outside of the conventions
abbrev pub AreOfNode : List ℕ → ℕ → Code → ℕ → List Item → Type 0
AreOfNode code trash c i items = node_items.AreInCode x86_holes (x86_rows code trash) IsInstr WritesWithin IsItem trash c i items

-- they are the code of the node, and a branch, jump, call or return has some
abbrev pub ItemsAreNodeCode : Type 0
ItemsAreNodeCode =
    (code : List ℕ) (trash : ℕ) (c : Code) (i : ℕ) (items : List Item) → AreOfNode code trash c i items
    → (leaps_at (slice_get c.nodes.nodes i) ≡ true → 0 < words_in items)
    → IsNodeCode (x86_rows code trash) IsInstr c i (settled (slice_index c.addresses) (c.place i) items)

-- and where they follow one another, a block of it
abbrev pub ItemsAreInCode : Type 0
ItemsAreInCode =
    (code : List ℕ) (trash : ℕ) (c : Code) (i : ℕ) (items : List Item) → AreOfNode code trash c i items
    → (leaps_at (slice_get c.nodes.nodes i) ≡ true → 0 < words_in items)
    → IsBlock is_straight (settled (slice_index c.addresses) (c.place i) items) → IsInCode code trash c i (settled (slice_index c.addresses) (c.place i) items)
