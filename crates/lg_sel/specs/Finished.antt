-- From a finished buffer to the items of a node that were appended to it.
use Rattle.std.specs.Prelude.{◌≡◌, ℕ, ◌-◌, ◌≤◌, Bool, true, List, ◌++◌, length, slice_get, slice_index, count_by}
use Rattle.std.specs.List.{All}
use Rattle.lg_buf.specs.Buffers.{Buffer}
use Rattle.lg_carry.specs.Carries.{moves_at}
use Rattle.lg_carry.specs.FinalNodes.{Code}
use Rattle.lg_carry.specs.Rows.{Rows}
use Rattle.lg_sel.specs.Selected.{IsFinished, AreWhole, part_of}
use Rattle.lg_sel.specs.Stores.{StoresAtMost}
use Rattle.lg_sel.specs.Holes.{Holes, words_in, blanks, settled, fixes_of, Each}
use Rattle.lg_sel.specs.NodeItems.{AreOfNode}

-- the items were appended to the old buffer, which became the new one
pub record AreAppended {L I : Type 0} (H : Holes L I) (old new : Buffer) (items : List L) : Type 0 where
  pub bytes : new.bytes ≡ old.bytes ++ blanks H items
  pub fixes : new.fixes ≡ old.fixes ++ fixes_of H (length old.bytes) items

-- so they are those of the node once the buffer is finished
abbrev pub ItemsAreOfNode : {L Q I : Type 0} → Holes L I → Rows Q I → (I → Type 0) → (Bool → I → Type 0) → (L → Type 0) → Type 0
ItemsAreOfNode {L} H R fits stays is_item =
    (old new : Buffer) (c : Code) (i : ℕ) (items : List L) → AreAppended H old new items → Each is_item items
    → All (stays (moves_at R.processor.target (slice_get c.nodes.nodes i))) (settled H (slice_index c.addresses) (c.place i) items)
    → words_in H items ≤ 64 → R.is_place (c.place i) ≡ true → IsFinished old new R.code c i
    → AreOfNode H R fits stays is_item c i items

-- and its bytes are whole instructions
abbrev pub ItemsAreWhole : {L I : Type 0} → Holes L I → (I → List ℕ) → (I → Type 0) → (L → Type 0) → Type 0
ItemsAreWhole {L} H spelling fits is_item =
    (old new : Buffer) (code : List ℕ) (c : Code) (i : ℕ) (items : List L) → AreAppended H old new items → Each is_item items → IsFinished old new code c i
    → AreWhole spelling fits (part_of code (length old.bytes) (length new.bytes - length old.bytes))

-- as many of which store as of the instructions that the items become
abbrev pub ItemsAreSparing : {L I : Type 0} → Holes L I → (I → List ℕ) → (I → Type 0) → (L → Type 0) → Type 0
ItemsAreSparing {L} {I} H spelling fits is_item =
    (is_store : I → Bool) (old new : Buffer) (code : List ℕ) (c : Code) (i : ℕ) (items : List L) (most : ℕ) → AreAppended H old new items → Each is_item items
    → count_by is_store (settled H (slice_index c.addresses) (c.place i) items) ≤ most → IsFinished old new code c i
    → StoresAtMost spelling fits is_store most (part_of code (length old.bytes) (length new.bytes - length old.bytes))
