-- Cells for bytes, by their places.
use Rattle.std.specs.Prelude.{◌≡◌, ℕ, ◌+◌, ◌-◌, ◌<◌, ◌≤◌, ◌==◌, ◌&&◌, Bool, true, false, nat_lt, nat_le, if◌then◌else◌, Option, Some, None, List, length, slice_index}
use Rattle.lg_base.specs.Spaces.{number_at}
use Rattle.lg_cells.specs.declared.cell.Cell.{Cell}
use Rattle.lg_cells.specs.declared.cell.Cell.TheVariants.{Closed, Fresh, Holds}

-- the byte that is in a cell
abbrev pub byte_in : Cell → Option ℕ
byte_in Closed = None
byte_in Fresh = None
byte_in (Holds b) = Some b

-- whether a byte can be written into a cell
abbrev pub is_room : Cell → Bool
is_room Closed = false
is_room Fresh = true
is_room (Holds b) = true

-- the bytes and the marks of a part by their places, and how many places it can have
pub record Marks : Type 0 where
  pub bytes : List ℕ
  pub marks : List ℕ
  pub most : ℕ

-- each byte has a mark, and there is room for the most places
pub record IsHeld (bytes marks : List ℕ) (most bytes_room marks_room : ℕ) : Type 0 where
  pub same_len : length bytes ≡ length marks
  pub few : length marks ≤ most
  pub bytes_fit : most ≤ bytes_room
  pub marks_fit : most ≤ marks_room

-- the cell of a mark and a byte: closed at the mark 0, fresh at 1
abbrev pub cell_by : ℕ → ℕ → Cell
cell_by mark byte = if mark == 0 then Closed else (if mark == 1 then Fresh else Holds byte)

-- the cell at a place; beyond the last one is nothing
abbrev pub cell_of : Marks → ℕ → Cell
cell_of m place = cell_by (slice_index m.marks place) (slice_index m.bytes place)

-- the byte that was written at a place
abbrev pub byte_of : Marks → ℕ → Option ℕ
byte_of m place = byte_in (cell_of m place)

-- whether a byte can be written at a place
abbrev pub room_of : Marks → ℕ → Bool
room_of m place = is_room (cell_of m place)

-- this many places from one on can be written
abbrev pub AreRooms : Marks → ℕ → ℕ → Type 0
AreRooms m at width = (i : ℕ) → i < width → room_of m (at + i) ≡ true

-- this many places from one on have the mark of a byte that was written
abbrev pub AreWritten : List ℕ → ℕ → ℕ → Type 0
AreWritten marks at width = (i : ℕ) → i < width → slice_index marks (at + i) ≡ 2

-- this many bytes that were written hold a number
pub record IsWordIn (bytes marks : List ℕ) (at width word : ℕ) : Type 0 where
  pub all : AreWritten marks at width
  pub word_is : word ≡ number_at (slice_index bytes) at width

-- whether a number is one of n from another on
abbrev pub within : ℕ → ℕ → ℕ → Bool
within from count n = nat_le from n && nat_lt n (from + count)

-- marks, this many of which from a place on are this one
abbrev pub with_marks : (ℕ → ℕ) → ℕ → ℕ → ℕ → ℕ → ℕ
with_marks marks from count mark place = if within from count place then mark else marks place

-- cells with one changed
abbrev pub with_cell : (ℕ → Cell) → ℕ → Cell → ℕ → Cell
with_cell cells at cell place = if place == at then cell else cells place

-- cells, this many of which from a place on are this one
abbrev pub with_cells : (ℕ → Cell) → ℕ → ℕ → Cell → ℕ → Cell
with_cells cells from count cell place = if within from count place then cell else cells place

-- cells, this many of which from a place on hold bytes
abbrev pub with_bytes : (ℕ → Cell) → ℕ → List ℕ → ℕ → ℕ → Cell
with_bytes cells from bytes count place = if within from count place then Holds (slice_index bytes (place - from)) else cells place

-- cells that hold the bytes of a data and an argument part from the first one on
abbrev pub first_cells : List ℕ → List ℕ → ℕ → Cell
first_cells image args = with_bytes (with_bytes (λ _. Closed) 0 image (length image)) (length image) args (length args)

-- the places stay as many
pub record IsAsLong (old new : Marks) : Type 0 where
  pub same_len : length new.marks ≡ length old.marks
  pub same_most : new.most ≡ old.most
