-- Code, some items of which are those of a node.
use Rattle.std.specs.Prelude.{◌≡◌, ℕ, ◌+◌, ◌-◌, ◌^◌, ◌<◌, ◌≤◌, Bool, true, List, length, slice_get, slice_index}
use Rattle.std.specs.List.{All}
use Rattle.lg_base.specs.Layout.{code_base, most_code}
use Rattle.lg_carry.specs.Blocks.{StaysOutside, IsBlock}
use Rattle.lg_carry.specs.Carries.{leaps_at, moves_at}
use Rattle.lg_carry.specs.FinalNodes.{Code}
use Rattle.lg_carry.specs.NodeBlocks.{IsNodeBlock}
use Rattle.lg_carry.specs.Passages.{IsNodeCode}
use Rattle.lg_carry.specs.Rows.{Rows}
use Rattle.lg_cpu.specs.Laws.{AreBytes}
use Rattle.lg_sel.specs.Holes.{Holes, words_in, blanks, settled, Each, IsSettled}

-- instructions that stay within the conventions, of code that moves the stack pointer or does not, change no register that is outside
abbrev pub InstructionsStay : {Q I : Type 0} → Rows Q I → (Bool → I → Type 0) → Type 0
InstructionsStay {Q} {I} R stays = (moves : Bool) (i : I) → stays moves i → StaysOutside R moves i

-- the instructions of these items, with the addresses of the labels, stand where node i does, are its code, are at most 64, and stay within the conventions
pub record AreOfNode {L Q I : Type 0} (H : Holes L I) (R : Rows Q I) (fits : I → Type 0) (stays : Bool → I → Type 0) (is_item : L → Type 0) (c : Code) (i : ℕ)
    (items : List L) : Type 0 where
  pub items_are : Each is_item items
  pub low : code_base ≤ c.place i
  pub place : R.is_place (c.place i) ≡ true
  pub settled_at : IsSettled R.spelling fits R.code (c.place i - code_base) (c.place i - code_base + length (blanks H items))
      (settled H (slice_index c.addresses) (c.place i) items)
  pub next : c.place (i + 1) ≡ c.place i + length (blanks H items)
  pub few : words_in H items ≤ 64
  pub stay : All (stays (moves_at R.processor.target (slice_get c.nodes.nodes i))) (settled H (slice_index c.addresses) (c.place i) items)

-- the processor runs this code, and the registers that a call does not keep hold a word after it
pub record AreInCode {L Q I : Type 0} (H : Holes L I) (R : Rows Q I) (fits : I → Type 0) (stays : Bool → I → Type 0) (is_item : L → Type 0) (trash : ℕ) (c : Code) (i : ℕ)
    (items : List L) : Type 0 where
  pub small : length R.code ≤ most_code
  pub bytes : AreBytes R.code
  pub word : trash < 2 ^ 64
  pub of_node : AreOfNode H R fits stays is_item c i items

-- they are the code of the node, and a branch, jump, call or return has some
abbrev pub ItemsAreNodeCode : {L Q I : Type 0} → Holes L I → Rows Q I → (I → Type 0) → (Bool → I → Type 0) → (L → Type 0) → Type 0
ItemsAreNodeCode {L} H R fits stays is_item =
    (c : Code) (i : ℕ) (items : List L) → AreOfNode H R fits stays is_item c i items → (leaps_at (slice_get c.nodes.nodes i) ≡ true → 0 < words_in H items)
    → IsNodeCode R fits c i (settled H (slice_index c.addresses) (c.place i) items)

-- and where they follow one another, a block of it
abbrev pub ItemsAreNodeBlocks : {L Q I : Type 0} → Holes L I → Rows Q I → (I → Type 0) → (Bool → I → Type 0) → (L → Type 0) → Type 0
ItemsAreNodeBlocks {L} H R fits stays is_item =
    (c : Code) (i : ℕ) (items : List L) → AreOfNode H R fits stays is_item c i items → (leaps_at (slice_get c.nodes.nodes i) ≡ true → 0 < words_in H items)
    → IsBlock R.is_straight (settled H (slice_index c.addresses) (c.place i) items)
    → IsNodeBlock R fits c i (settled H (slice_index c.addresses) (c.place i) items)
