-- The portable meaning of the nodes of steps.
use Rattle.std.specs.Prelude.{◌≡◌, ℕ, ◌+◌, ◌-◌, ◌*◌, ◌^◌, ◌<◌, ◌≤◌, true, List, [], ◌∷◌, length, Some, slice_get}
use Rattle.lg_base.specs.Layout.{frame_pointer}
use Rattle.lg_base.specs.Spaces.{loaded}
use Rattle.lg_base.specs.Words.{add_words}
use Rattle.lg_op.specs.declared.node.Node.{Node}
use Rattle.lg_node.specs.Locals.{offset_below}
use Rattle.lg_node.specs.Nodes.{LabelledNodes}
use Rattle.lg_node.specs.Shapes.{TextShape}
use Rattle.lg_meaning.specs.Means.{mean_from, run_at}
use Rattle.lg_meaning.specs.States.{Frame, State, in_locals}
use Rattle.lg_expression.specs.Steps.{is_whole}
use Rattle.lg_expression.specs.Units.{nodes_of}
use Rattle.lg_expression.specs.declared.step.Step.{Step}
use Rattle.lg_expression.specs.Values.{AreWordSteps, after_steps}

-- nodes are in a text from a place on
abbrev pub StandAt : LabelledNodes → ℕ → List Node → Type 0
StandAt l place [] = Unit {0}
StandAt l place (n ∷ nodes) = (slice_get l.nodes place ≡ Some n) × StandAt l (place + 1) nodes

-- the running function has 256 bytes of locals or more, within the addresses
pub record HasLocals (s : State) : Type 0 where
  pub some : 256 ≤ s.frame.locals
  pub low : s.frame.locals + 144 ≤ s.frame.sp
  pub high : s.frame.sp < 2 ^ 64

-- the address of a place of the stack: the first local is at 384 below the frame pointer, which is at 16 below the stack pointer at the call
abbrev pub place_address : State → ℕ → ℕ
place_address s place = s.frame.sp - 400 + 8 * place

-- the values below the topmost one wait in the frame, each a word
abbrev pub Wait : State → List ℕ → Type 0
Wait s [] = Unit {0}
Wait s (v ∷ rest) = (loaded s.mem (place_address s (length rest)) 8 ≡ Some v) × (v < 2 ^ 64) × Wait s rest

-- the topmost value is in V0
abbrev pub StandsOn : State → List ℕ → Type 0
StandsOn s [] = Unit {0}
StandsOn s (v ∷ rest) = (s.regs 3 ≡ Some v) × (v < 2 ^ 64) × Wait s rest

-- the argument is in V1, and this stack stands
pub record Holds (x : ℕ) (stack : List ℕ) (s : State) : Type 0 where
  pub locals : HasLocals s
  pub argument : s.regs 4 ≡ Some x
  pub word : x < 2 ^ 64
  pub stands : StandsOn s stack

-- the meaning of n nodes leads from a state to one after them that holds an argument and a stack
pub record Comes (l : LabelledNodes) (shape : TextShape) (addresses : List ℕ) (s : State) (count : ℕ) (x : ℕ) (stack : List ℕ) : Type 0 where
  pub to : State
  pub run : mean_from l shape addresses s count ≡ run_at to []
  pub at : to.at ≡ s.at + count
  pub holds : Holds x stack to

abbrev pub NodesWorkExpressionsOut : Type 0
NodesWorkExpressionsOut =
    (l : LabelledNodes) (shape : TextShape) (addresses : List ℕ) (s : State) (x : ℕ) (steps : List Step) (before after : List ℕ)
    → StandAt l s.at (nodes_of (length before) steps) → AreWordSteps steps → is_whole (length before) steps ≡ true → length before ≤ 32
    → Holds x before s → after_steps x steps before ≡ Some after
    → Comes l shape addresses s (length (nodes_of (length before) steps)) x after

-- each byte of a local that takes this many bytes, after others that take some, is among the locals of a frame that has room for them: by its offset from FP,
-- which points 16 below the stack pointer at the call
abbrev pub LocalsLieInTheFrame : Type 0
LocalsLieInTheFrame =
    (f : Frame) (before bytes k : ℕ) → before + bytes ≤ f.locals → f.locals + 144 ≤ f.sp → f.sp < 2 ^ 64 → k < bytes
    → in_locals f (add_words (frame_pointer f.sp) (offset_below (before + bytes)) + k) ≡ true
