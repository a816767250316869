-- Which addresses of the stack are memory of the portable machine.
use Rattle.std.specs.Prelude.{◌≡◌, ℕ, ◌+◌, ◌-◌, ◌<◌, ◌≤◌, false, ◌∷◌, Some, slice_get}
use Rattle.lg_base.specs.Arguments.{most_args}
use Rattle.lg_base.specs.Layout.{stack_end}
use Rattle.lg_host.specs.Host.{heap_end}
use Rattle.lg_meaning.specs.States.{Frame, State, in_locals, is_open}

-- the data part and the argument part are within their largest sizes
pub record HasSmallParts (s : State) : Type 0 where
  pub image : s.data_size ≤ 0x1000000
  pub args : s.args_size ≤ most_args

-- of the stack only locals are memory
pub record OpensLocalsAlone (s : State) : Type 0 where
  -- among the addresses of a frame its own locals
  pub frames : (k a : ℕ) (f : Frame) → slice_get (s.frame ∷ s.callers) k ≡ Some f → f.sp - f.size ≤ a → a < f.sp → is_open s a ≡ in_locals f a
  -- so none of its words: the homes and spill slots, the saved registers, the caller's frame pointer and the return address, which end
  -- at its stack pointer, and the stack words of its arguments after them
  pub words : (k a : ℕ) (f : Frame) → slice_get (s.frame ∷ s.callers) k ≡ Some f → f.sp - 144 ≤ a → a < f.sp + 128 → is_open s a ≡ false
  -- nor those of the arguments of a call that the running frame makes
  pub staged : (a : ℕ) → s.frame.sp - s.frame.size ≤ a → a < s.frame.sp - s.frame.size + 128 → is_open s a ≡ false
  -- nothing below the running frame, and nothing after the stack
  pub below : (a : ℕ) → heap_end ≤ a → a < s.frame.sp - s.frame.size → is_open s a ≡ false
  pub behind : (a : ℕ) → stack_end ≤ a → is_open s a ≡ false
