-- How the portable state is held: frames with their words in arrays, and memory in cells.
use Rattle.std.specs.Prelude.{◌≡◌, ◌≤◌, ◌⊎◌, ℕ, ◌+◌, Bool, Option, None, List, [], ◌∷◌, take, map, reverse, slice_index_or, vec_capacity}
use Rattle.lg_cells.specs.Memories.{Marked, byte_at, room_at}
use Rattle.lg_op.specs.declared.carry.Carry.{Carry}
use Rattle.lg_mean.specs.declared.frame.KeptFrame.{KeptFrame}
use Rattle.lg_mean.specs.declared.machine.Machine.TheInside.{Inside}
use Rattle.lg_meaning.specs.States.{Frame, State, is_part}

pub record MachineState : Type 0 where
  pub at : ℕ
  pub registers : List (Option ℕ)
  pub carry : Carry
  pub answer : Option ℕ
  pub staged : List ℕ
  pub count : ℕ
  pub variadic : Option Bool
  pub top : KeptFrame
  pub below : List KeptFrame
  pub memory : Marked
  pub heap : ℕ
  pub data_size : ℕ
  pub args_size : ℕ

abbrev pub regs_of : List (Option ℕ) → ℕ → Option ℕ
regs_of registers r = slice_index_or registers r None

abbrev pub frame_in : KeptFrame → Frame
frame_in k = record { sp = k.sp; back = k.back; args = take k.count k.args; saved = regs_of k.saved; size = k.size; locals = k.locals }

-- the state that a machine holds
abbrev pub state_of : MachineState → State
state_of m = record {
  at = m.at;
  regs = regs_of m.registers;
  carry = m.carry;
  answer = m.answer;
  pushed = take m.count m.staged;
  variadic = m.variadic;
  frame = frame_in m.top;
  callers = map frame_in (reverse m.below);
  mem = byte_at m.memory;
  mark = m.heap;
  data_size = m.data_size;
  args_size = m.args_size;
}

abbrev pub view_of : Inside → MachineState
view_of m = record {
  at = m.at;
  registers = m.registers;
  carry = m.carry;
  answer = m.answer;
  staged = m.staged;
  count = m.count;
  variadic = m.variadic;
  top = m.top;
  below = m.below.items;
  memory = m.memory;
  heap = m.heap;
  data_size = m.data_size;
  args_size = m.args_size;
}

-- frames are one below the other, the top one first; the first one was called with a stack pointer at or below the stack's end
abbrev pub AreStacked : Frame → List Frame → Type 0
AreStacked f [] = f.sp ≤ 0x40000000
AreStacked f (g ∷ fs) = (f.sp + g.size ≡ g.sp) × (272 + g.locals ≤ g.size) × AreStacked g fs

-- the top frame has room below its call, and no locals before its `prolog`
pub record IsTop (f : Frame) : Type 0 where
  pub low : 0x3FF00010 + f.size ≤ f.sp
  pub whole : (f.locals ≡ 0) ⊎ (272 + f.locals ≤ f.size)

-- what is true of every machine: sizes, room for all frames, and memory that can be written where it is a part of the state
pub record IsMachine (m : Inside) : Type 0 where
  pub stacked : AreStacked (frame_in m.top) (map frame_in (reverse m.below.items))
  pub top_fits : IsTop (frame_in m.top)
  pub high : m.top.sp ≤ 0x40000000
  pub data_small : m.data_size ≤ 0x1000000
  pub args_small : m.args_size ≤ 0x100000
  pub heap_low : 0x30000000 ≤ m.heap
  pub heap_high : m.heap ≤ 0x30400000
  pub few : m.count ≤ 16
  pub space : 3855 ≤ vec_capacity m.below
  pub rooms : room_at m.memory ≡ is_part m.data_size m.args_size m.heap (frame_in m.top ∷ map frame_in (reverse m.below.items))
