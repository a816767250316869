-- The portable state at the start of a run: that of a text, and that of a function that is called from outside.
use Rattle.std.specs.Prelude.{◌≡◌, ◌≤◌, ℕ, ◌%◌, nat_lt, true, Option, Some, None, List, [], ◌∷◌, length, ⊤, if◌then◌else◌}
use Rattle.lg_base.specs.Parts.{args_base, heap_base, stack_base}
use Rattle.lg_base.specs.Layout.{stack_end}
use Rattle.lg_base.specs.Arguments.{argument_count}
use Rattle.lg_cells.specs.Memories.{first_bytes}
use Rattle.lg_host.specs.Host.{heap_end}
use Rattle.lg_op.specs.declared.carry.Carry.TheVariants as carry
use Rattle.lg_op.specs.declared.operand.Label.{Label}
use Rattle.lg_node.specs.Labels.{place_of, is_entry}
use Rattle.lg_node.specs.Nodes.{LabelledNodes}
use Rattle.lg_meaning.specs.States.{Frame, State, is_part}
use Rattle.lg_meaning.specs.Steps.{node_in}

-- the stack pointer with which a run may begin: a multiple of 16 in the stack, with room below it for the largest frame that a function has
pub record IsEntryStack (sp : ℕ) : Type 0 where
  pub whole : sp % 16 ≡ 0
  pub room : 0x3FF10120 ≤ sp
  pub high : sp ≤ stack_end

-- the heap mark is in the heap
pub record IsHeapMark (mark : ℕ) : Type 0 where
  pub low : heap_base ≤ mark
  pub high : mark ≤ heap_end

-- what a run begins with: the stack pointer and the arguments of the call, the bytes of the memory, the heap mark, and the sizes of the data part and of the
-- argument part
pub record Entry : Type 0 where
  pub sp : ℕ
  pub args : List ℕ
  pub mem : ℕ → Option ℕ
  pub mark : ℕ
  pub data_size : ℕ
  pub args_size : ℕ

-- a run may begin with it: at most 16 arguments, and bytes in the data part, the argument part and the heap below the mark alone
pub record MayEnter (e : Entry) : Type 0 where
  pub stack : IsEntryStack e.sp
  pub few : length e.args ≤ 16
  pub heap : IsHeapMark e.mark
  pub parts : (a b : ℕ) → e.mem a ≡ Some b → is_part e.data_size e.args_size e.mark [] a ≡ true

-- where a run begins: at the first node, or at a label, which is bound at the `prolog` of a function
abbrev pub begins_at : LabelledNodes → Option Label → ℕ
begins_at l None = 0
begins_at l (Some x) = node_in (place_of l.places x)

abbrev pub MayBegin : LabelledNodes → Option Label → Type 0
MayBegin l None = ⊤
MayBegin l (Some x) = is_entry l.nodes (place_of l.places x) ≡ true

-- the frame of a function that is called with this stack pointer and these arguments; it returns to nothing
abbrev pub entry_frame : ℕ → List ℕ → Frame
entry_frame sp args = record { sp = sp; back = 0; args = args; saved = λ r. None; size = 0; locals = 0 }

-- the state at the start of a run that begins with this at a node, at which nothing is defined or pushed
abbrev pub entered_state : Entry → ℕ → State
entered_state e k = record {
  at = k;
  regs = λ r. None;
  carry = carry.Undefined;
  answer = None;
  pushed = [];
  variadic = None;
  frame = entry_frame e.sp e.args;
  callers = [];
  mem = e.mem;
  mark = e.mark;
  data_size = e.data_size;
  args_size = e.args_size;
}

-- what the run of a text begins with: its two arguments are the number of strings of the argument part and the first address of their pointers, memory holds the
-- bytes of the data part and of the argument part, and nothing of the heap is allocated
abbrev pub start_entry : ℕ → List ℕ → List ℕ → Entry
start_entry sp image args = record {
  sp = sp;
  args = argument_count args ∷ args_base ∷ [];
  mem = first_bytes image args;
  mark = heap_base;
  data_size = length image;
  args_size = length args;
}

-- the state at the start of a run of a text that begins with this stack pointer, at the first node
abbrev pub start_state_at : ℕ → List ℕ → List ℕ → State
start_state_at sp image args = entered_state (start_entry sp image args) 0

-- that of a run that begins at the end of the stack
abbrev pub start_state : List ℕ → List ℕ → State
start_state image args = start_state_at stack_end image args

-- what a function is called with after a run that came to a state: the data part, the argument part and the heap are those of that state, and the locals of its
-- frames are gone
abbrev pub outside_stack : (ℕ → Option ℕ) → ℕ → Option ℕ
outside_stack mem a = if nat_lt a stack_base then mem a else None

abbrev pub entry_after : State → (sp : ℕ) → List ℕ → Entry
entry_after s sp args =
    record { sp = sp; args = args; mem = outside_stack s.mem; mark = s.mark; data_size = s.data_size; args_size = s.args_size }
