-- When a portable state fits the shape of a text.
use Rattle.std.specs.Prelude.{◌≡◌, ◌≢◌, ℕ, ◌+◌, ◌<◌, ◌≤◌, Bool, true, false, Option, Some, None, List, [], ◌∷◌, length, slice_get}
use Rattle.lg_op.specs.declared.op.Op.{Op}
use Rattle.lg_op.specs.declared.op.Op.TheVariants as op
use Rattle.lg_op.specs.declared.op.ControlOp.TheVariants as control
use Rattle.lg_op.specs.declared.node.Node.{Node}
use Rattle.lg_node.specs.declared.function.Function.{Function}
use Rattle.lg_node.specs.Nodes.{LabelledNodes}
use Rattle.lg_node.specs.Functions.{home, frame_of}
use Rattle.lg_node.specs.Preparations.{pushed, variadic}
use Rattle.lg_node.specs.Checks.{is_begun}
use Rattle.lg_node.specs.Shapes.{TextShape}
use Rattle.lg_meaning.specs.States.{Frame, State, is_open}
use Rattle.lg_meaning.specs.Starts.{IsEntryStack, IsHeapMark}
use Rattle.lg_meaning.specs.Steps.{function_here}

-- the running frame is one of a function: before its `prolog` it has no size yet, and can get that of the function; then it has it
pub record IsOf (f : Function) (s : State) : Type 0 where
  pub behind : s.at ≢ f.entry → (s.frame.size ≡ frame_of f) × (s.frame.locals ≡ f.locals)
  pub before : s.at ≡ f.entry → (s.frame.size ≡ 0) × (s.frame.locals ≡ 0) × (0x3FF00010 + frame_of f ≤ s.frame.sp)

-- it is one of the function of this node
pub record RunsIn (shape : TextShape) (s : State) (p : ℕ) : Type 0 where
  pub function : Function
  pub here : function_here shape.functions s.at ≡ Some function
  pub entry : function.entry ≡ p
  pub top : IsOf function s

-- before the first `prolog` of the text there is the entry's frame alone
pub record IsBeforeAll (l : LabelledNodes) (s : State) : Type 0 where
  pub outside : is_begun l.nodes s.at ≡ false
  pub alone : s.callers ≡ []
  pub size : s.frame.size ≡ 0
  pub locals : s.frame.locals ≡ 0

-- the running frame is one of the function in which the state's node stands, or the entry's alone
abbrev pub IsTopOf : LabelledNodes → TextShape → State → Option ℕ → Type 0
IsTopOf l shape s (Some p) = RunsIn shape s p
IsTopOf l shape s None = IsBeforeAll l s

abbrev pub is_call : Op → Bool
is_call (op.Control control.Call last) = true
is_call (op.Control control.Finish last) = true
is_call o = false

-- how many arguments a call passes
abbrev pub passed : List Node → ℕ → Op → ℕ
passed nodes i (op.Control control.Finish last) = pushed nodes i
passed nodes i o = 0

-- frame g was left at a call node of its function, for frame f
pub record IsCaller (l : LabelledNodes) (shape : TextShape) (f g : Frame) : Type 0 where
  pub at : ℕ
  pub node : Node
  pub function : Function
  pub back : f.back ≡ at + 1
  pub here : slice_get l.nodes at ≡ Some node
  pub calls : is_call node.op ≡ true
  pub args : length f.args ≡ passed l.nodes at node.op
  pub home : home l.nodes at ≡ Some function.entry
  pub found : function_here shape.functions at ≡ Some function
  pub size : g.size ≡ frame_of function
  pub locals : g.locals ≡ function.locals
  pub below : f.sp + g.size ≡ g.sp

-- the stack pointer with which the first of the frames was called
abbrev pub entry_stack : Frame → List Frame → ℕ
entry_stack f [] = f.sp
entry_stack f (g ∷ gs) = entry_stack g gs

-- the frames, the last one first; the entry's was called with a stack pointer with which a run may begin, and with at most 16 arguments
abbrev pub AreLinked : LabelledNodes → TextShape → Frame → List Frame → Type 0
AreLinked l shape f [] = IsEntryStack f.sp × (length f.args ≤ 16)
AreLinked l shape f (g ∷ gs) = IsCaller l shape f g × AreLinked l shape g gs

-- a state fits the shape of nodes; no frame begins below 0x3FF00010, since each begins below those of its callers
pub record Fits (l : LabelledNodes) (shape : TextShape) (s : State) : Type 0 where
  pub inside : s.at < length l.nodes
  pub top : IsTopOf l shape s (home l.nodes s.at)
  pub linked : AreLinked l shape s.frame s.callers
  pub low : 0x3FF00010 + s.frame.size ≤ s.frame.sp
  pub pushed : length s.pushed ≡ pushed l.nodes s.at
  pub variadic : s.variadic ≡ variadic l.nodes s.at
  pub memory : (a b : ℕ) → s.mem a ≡ Some b → is_open s a ≡ true

-- a state that fits, and whose heap mark is in the heap; without the latter a host function could write below the heap
pub record FitsWell (l : LabelledNodes) (shape : TextShape) (s : State) : Type 0 where
  pub fits : Fits l shape s
  pub heap : IsHeapMark s.mark

-- the running frame is one of a function that has begun at the state's node
pub record IsRunning (functions : List Function) (s : State) : Type 0 where
  pub function : Function
  pub here : function_here functions s.at ≡ Some function
  pub behind : function.entry < s.at
  pub size : s.frame.size ≡ frame_of function
  pub locals : s.frame.locals ≡ function.locals

-- the running frame is one of a function that begins at the state's node, and there is room for it
pub record IsBeginning (functions : List Function) (s : State) : Type 0 where
  pub function : Function
  pub here : function_here functions s.at ≡ Some function
  pub entry : function.entry ≡ s.at
  pub size : s.frame.size ≡ 0
  pub locals : s.frame.locals ≡ 0
  pub room : 0x3FF00010 + frame_of function ≤ s.frame.sp
