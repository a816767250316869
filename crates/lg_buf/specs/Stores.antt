-- Bytes with a greatest number of them.
use Rattle.std.specs.Prelude.{◌≡◌, ℕ, ◌+◌, ◌<◌, ◌≤◌, ◌⊎◌, List, [], length, slice_index}
use Rattle.lg_base.specs.Rooms.{Roomy}

-- the bytes, and how many there can be
pub record StoredBytes : Type 0 where
  pub items : List ℕ
  pub size : ℕ

-- only the count bytes from the place on differ
pub record ChangesOnly (place count : ℕ) (old new : StoredBytes) : Type 0 where
  pub size : new.size ≡ old.size
  pub long : length new.items ≡ length old.items
  pub others : (i : ℕ) → (i < place) ⊎ (place + count ≤ i)
      → slice_index new.items i ≡ slice_index old.items i

-- an empty list has room for this many
abbrev pub IsRoomFor : ℕ → Roomy → Type 0
IsRoomFor n list = (list.items ≡ []) × (list.room ≡ n)
