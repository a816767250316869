-- The items of a node as a block of instructions.
use Rattle.std.proofs.Common.{◌≡◌, ℕ, ◌<◌, true, List, Bool}
use Rattle.std.specs.Prelude.{slice_get, slice_index}
use Rattle.std.specs.List.{All}
use Rattle.lg_carry.specs.Blocks.{IsBlock}
use Rattle.lg_carry.specs.Carries.{leaps_at}
use Rattle.lg_carry.specs.FinalNodes.{Code}
use Rattle.lg_carry.specs.Passages.{IsNodeCode}
use Rattle.lg_selr_values.specs.Processor.Destinations.{WritesWithin}
use Rattle.lg_selr_values.specs.Processor.Places.{IsInCode}
use Rattle.lg_selr_values.proofs.OfProcessor.OutsideLemmas.{instructions-stay}
use Rattle.lg_selr_values.specs.Processor.RvRows.{rv_rows, is_straight}
use Rattle.lg_rv.specs.Spelling.{IsInstr}
use Rattle.lg_sel.proofs.GoodItemLemmas.{good-items-settle}
use Rattle.lg_sel.proofs.NodeLemmas as nodes
use Rattle.lg_sel.specs.GoodItems.{Settles}
use Rattle.lg_selr_values.specs.declared.items.Item.{Item}
use Rattle.lg_selr_values.specs.declared.items.Item.TheVariants.{One, Branch, Jump, FarJump, Address}
use Rattle.lg_selr_values.specs.Items.{rv_holes, IsItem, StaysWithin, words_in, settled, StayWithin}
use Rattle.lg_selr_values.specs.OfNodes.{AreOfNode}
use Rattle.lg_selr_values.proofs.PatchLemmas.{are-holes}

-- the instructions of items write no register that is outside, where none of the items does
within : (moves : Bool) → Settles rv_holes (StaysWithin moves) (WritesWithin moves)
within moves (One i) to p h = (h, tt)
within moves (Branch o rs1 rs2 label) to p h = (tt, tt)
within moves (Jump rd label) to p h = (h, tt)
within moves (FarJump rd base label) to p h = (h.0, (h.1, tt))
within moves (Address rd label) to p h = (h, (h, tt))

pub settled-within : (moves : Bool) (to : ℕ → ℕ) (p : ℕ) (xs : List Item) → StayWithin moves xs → All (WritesWithin moves) (settled to p xs)
settled-within moves to p xs h = good-items-settle rv_holes (StaysWithin moves) (WritesWithin moves) (within moves) xs h to p

pub items-are-node-code : (code : List ℕ) (trash : ℕ) (c : Code) (i : ℕ) (items : List Item) → AreOfNode code trash c i items → (leaps_at (slice_get c.nodes.nodes i) ≡ true → 0 < words_in items)
    → IsNodeCode (rv_rows code trash) IsInstr c i (settled (slice_index c.addresses) (c.place i) items)
items-are-node-code code trash c i items a some =
    nodes.items-are-node-code rv_holes (rv_rows code trash) IsInstr WritesWithin IsItem are-holes (instructions-stay code trash) c i items a.of_node some

pub items-are-in-code : (code : List ℕ) (trash : ℕ) (c : Code) (i : ℕ) (items : List Item) → AreOfNode code trash c i items → (leaps_at (slice_get c.nodes.nodes i) ≡ true → 0 < words_in items)
    → IsBlock is_straight (settled (slice_index c.addresses) (c.place i) items) → IsInCode code trash c i (settled (slice_index c.addresses) (c.place i) items)
items-are-in-code code trash c i items a some block = record {
  small = a.small;
  bytes = a.bytes;
  word = a.word;
  block = record { code = items-are-node-code code trash c i items a some; block = block };
}
