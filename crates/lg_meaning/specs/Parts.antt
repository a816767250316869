-- What memory holds outside of the stack.
use Rattle.std.specs.Prelude.{◌≡◌, ◌⊎◌, ℕ, ◌+◌, ◌-◌, ◌<◌, ◌≤◌, true, List, ◌∷◌, Some, length, slice_get, is_some}
use Rattle.lg_base.specs.Parts.{data_base, args_base, heap_base, stack_base}
use Rattle.lg_cells.specs.Cells.{within}
use Rattle.lg_meaning.specs.States.{Frame, State}

-- from one state to another the parts keep their sizes, the heap mark does not fall, and outside of the stack no byte is taken out
pub record Grows (s t : State) : Type 0 where
  pub data_size : t.data_size ≡ s.data_size
  pub args_size : t.args_size ≡ s.args_size
  pub mark : s.mark ≤ t.mark
  pub bytes : (a : ℕ) → a < stack_base → is_some (s.mem a) ≡ true → is_some (t.mem a) ≡ true

-- memory holds exactly these bytes' addresses in the ranges of the data part and of the argument part
pub record HoldsParts (image args : List ℕ) (s : State) : Type 0 where
  pub data_size : s.data_size ≡ length image
  pub args_size : s.args_size ≡ length args
  pub data_held : (a : ℕ) → data_base ≤ a → a < args_base → is_some (s.mem a) ≡ within data_base (length image) a
  pub args_held : (a : ℕ) → args_base ≤ a → a < heap_base → is_some (s.mem a) ≡ within args_base (length args) a

-- ---- one part
-- this many bytes from an address on are among those of a range
pub record IsAmong (base size a w : ℕ) : Type 0 where
  pub from : base ≤ a
  pub to : a + w ≤ base + size

-- they are among the locals of one of these frames
pub record IsAmongLocals (frames : List Frame) (a w : ℕ) : Type 0 where
  pub place : ℕ
  pub frame : Frame
  pub here : slice_get frames place ≡ Some frame
  pub among : IsAmong (frame.sp - 144 - frame.locals) frame.locals a w

-- they lie in one part: the data, the arguments, the heap below the mark, or the locals of one frame
abbrev pub LiesInOnePart : State → ℕ → ℕ → Type 0
LiesInOnePart s a w =
    IsAmong data_base s.data_size a w ⊎ (IsAmong args_base s.args_size a w
    ⊎ (IsAmong heap_base (s.mark - heap_base) a w ⊎ IsAmongLocals (s.frame ∷ s.callers) a w))
