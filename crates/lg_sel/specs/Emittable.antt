-- Items that can be appended to a buffer.
use Rattle.std.specs.Prelude.{ℕ, ◌≤◌, List, length}
use Rattle.lg_sel.specs.Holes.{Holes, Each, blanks, fixes_of}

-- the numbers of the items are in range, they name labels of this many, have at most one fix, and at most 256 bytes
pub record AreEmittable {L I : Type 0} (H : Holes L I) (is_item : L → Type 0) (names_one_of : ℕ → L → Type 0) (labels : ℕ) (items : List L) : Type 0 where
  pub instrs : Each is_item items
  pub names : Each (names_one_of labels) items
  pub fixed : (p : ℕ) → length (fixes_of H p items) ≤ 1
  pub small : length (blanks H items) ≤ 256
