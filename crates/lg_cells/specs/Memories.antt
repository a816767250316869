-- The memory of the portable machine: which bytes are at which addresses, and which addresses can be written.
use Rattle.std.specs.Prelude.{◌≡◌, ℕ, zero, suc, ◌+◌, ◌-◌, ◌<◌, ◌≤◌, ◌&&◌, Bool, true, false, length, if◌then◌else◌, Option, Some, None, List, slice_index}
use Rattle.lg_cells.specs.declared.cell.Cell.{Cell}
use Rattle.lg_cells.specs.declared.cell.Cell.TheVariants.{Closed}
use Rattle.lg_cells.specs.Cells.{Marks, byte_in, is_room, cell_of, room_of, within}

-- the sizes of the data part and of the argument part, the first address of the heap that is not allocated, the part of the data, the arguments and the heap,
-- in this order, and the part of the stack, from its end down
pub record Marked : Type 0 where
  pub data_size : ℕ
  pub args_size : ℕ
  pub mark : ℕ
  pub low : Marks
  pub stack : Marks

-- the place of an address below the stack: one of the data, of the arguments, or of the heap below the mark
abbrev pub place_of : ℕ → ℕ → ℕ → ℕ → Option ℕ
place_of d g mark a =
    if within 0x20000000 d a then Some (a - 0x20000000)
    else (if within 0x28000000 g a then Some (a - 0x28000000 + d)
    else (if within 0x30000000 (mark - 0x30000000) a then Some (a - 0x30000000 + d + g) else None))

-- the cell of an address of the stack
abbrev pub stack_cell : Marks → ℕ → Cell
stack_cell stack a = if within 0x3FF00000 0x100000 a then cell_of stack (0x3FFFFFFF - a) else Closed

abbrev pub cell_in : Marks → Cell → Option ℕ → Cell
cell_in low other None = other
cell_in low other (Some place) = cell_of low place

-- the cell of an address
abbrev pub cell_at : Marked → ℕ → Cell
cell_at m a = cell_in m.low (stack_cell m.stack a) (place_of m.data_size m.args_size m.mark a)

-- the byte that was written at an address
abbrev pub byte_at : Marked → ℕ → Option ℕ
byte_at m a = byte_in (cell_at m a)

-- whether an address can be written
abbrev pub room_at : Marked → ℕ → Bool
room_at m a = is_room (cell_at m a)

-- how a memory is held: the parts are no larger than they may be, there is room for the whole heap and stack, and no cell of the heap
-- below the mark is closed
pub record IsMarked (m : Marked) : Type 0 where
  pub data_small : m.data_size ≤ 0x1000000
  pub args_small : m.args_size ≤ 0x100000
  pub mark_low : 0x30000000 ≤ m.mark
  pub mark_high : m.mark ≤ 0x30400000
  pub low_len : length m.low.marks ≡ m.data_size + m.args_size + (m.mark - 0x30000000)
  pub low_most : m.low.most ≡ m.data_size + m.args_size + 0x400000
  pub stack_most : m.stack.most ≡ 0x100000
  pub heap : (k : ℕ) → m.data_size + m.args_size ≤ k → k < m.data_size + m.args_size + (m.mark - 0x30000000) → room_of m.low k ≡ true

-- this many addresses have this cell
abbrev pub fills : (ℕ → Cell) → ℕ → ℕ → Cell → ℕ → Cell
fills cells from count cell a = if within from count a then cell else cells a

-- bytes without those of this many addresses
abbrev pub without : (ℕ → Option ℕ) → ℕ → ℕ → ℕ → Option ℕ
without bytes from count a = if within from count a then None else bytes a

-- this many addresses can be written besides
abbrev pub opened : (ℕ → Bool) → ℕ → ℕ → ℕ → Bool
opened room from count a = if within from count a then true else room a

-- this many addresses can be written no longer
abbrev pub closed : (ℕ → Bool) → ℕ → ℕ → ℕ → Bool
closed room from count a = if within from count a then false else room a

-- the bytes at first: those of the data part and those of the argument part
abbrev pub first_bytes : List ℕ → List ℕ → ℕ → Option ℕ
first_bytes image args a =
    if within 0x20000000 (length image) a then Some (slice_index image (a - 0x20000000))
    else (if within 0x28000000 (length args) a then Some (slice_index args (a - 0x28000000)) else None)

-- the addresses that can be written at first
abbrev pub first_room : ℕ → ℕ → ℕ → Bool
first_room d g a = if within 0x20000000 d a then true else within 0x28000000 g a

-- whether each of n addresses can be written
unfoldable pub writable : (ℕ → Bool) → ℕ → ℕ → Bool
writable room address zero = true
writable room address (suc width) = room address && writable room (address + 1) width

-- the parts keep their sizes
pub record IsSameSize (old new : Marked) : Type 0 where
  pub data_same : new.data_size ≡ old.data_size
  pub args_same : new.args_size ≡ old.args_size

-- the place of the first of this many addresses, all of which lie in one part below the stack; None says nothing
abbrev pub IsSpan : Marked → ℕ → ℕ → Option ℕ → Type 0
IsSpan m a width None = Unit {0}
IsSpan m a width (Some at) = (at + width ≤ m.data_size + m.args_size + (m.mark - 0x30000000))
    × ((i : ℕ) → i < width → place_of m.data_size m.args_size m.mark (a + i) ≡ Some (at + i))
