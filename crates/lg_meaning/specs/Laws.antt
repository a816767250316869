-- What holds of the portable meaning: laws for the crates that hold its state and follow its runs.
use Rattle.std.specs.Prelude.{◌≡◌, ℕ, ◌+◌, ◌*◌, ◌<◌, ◌≤◌, true, false, List, Option, Some, None, IsSome, length, slice_get}
use Rattle.std.specs.List.{All}
use Rattle.lg_base.specs.Arguments.{most_args}
use Rattle.lg_base.specs.Runs.{IsMachine, EndsSilently}
use Rattle.lg_op.specs.declared.node.Node.{Node}
use Rattle.lg_op.specs.declared.operand.Label.{Label}
use Rattle.lg_op.specs.Nodes.{InForm}
use Rattle.lg_node.specs.Nodes.{LabelledNodes}
use Rattle.lg_node.specs.Functions.{home, is_prolog_at}
use Rattle.lg_node.specs.Shapes.{TextShape, IsShapeOf}
use Rattle.lg_cells.specs.Memories.{writable}
use Rattle.lg_meaning.specs.States.{State, is_open}
use Rattle.lg_meaning.specs.Steps.{Outcome, Goes, Ends, Undefined}
use Rattle.lg_meaning.specs.Texts.{step}
use Rattle.lg_meaning.specs.Addresses.{AreAddresses, AreWithin, plain_addresses}
use Rattle.lg_meaning.specs.Fits.{Fits, FitsWell, IsRunning, IsBeginning}
use Rattle.lg_meaning.specs.Reasons.{why}
use Rattle.lg_meaning.specs.declared.reason.Reason.{Reason}
use Rattle.lg_meaning.specs.Parts.{Grows, HoldsParts, LiesInOnePart}
use Rattle.lg_meaning.specs.Stacks.{HasSmallParts, OpensLocalsAlone}
use Rattle.lg_meaning.specs.Starts.{IsEntryStack, Entry, MayEnter, begins_at, MayBegin, entered_state, start_entry}
use Rattle.lg_meaning.specs.Means.{run_at, behind, machine, mean_from, mean}

-- ---- the fit
-- the state at the start of a run fits the shape of each accepted text, with whatever and wherever the run may begin; and a run of the text may begin
abbrev pub StartsFit : Type 0
StartsFit = (l : LabelledNodes) (shape : TextShape) → IsShapeOf l shape → (e : Entry) (b : Option Label) → MayEnter e → MayBegin l b
    → FitsWell l shape (entered_state e (begins_at l b))

abbrev pub TextsMayBegin : Type 0
TextsMayBegin = (sp : ℕ) (image args : List ℕ) → IsEntryStack sp → MayEnter (start_entry sp image args)

-- a node has the operands of its operation
abbrev pub IsFormedAt : LabelledNodes → ℕ → Type 0
IsFormedAt l i = (n : Node) → slice_get l.nodes i ≡ Some n → InForm n

-- the state to which a step goes fits as well
abbrev pub StepsKeepFit : Type 0
StepsKeepFit = (l : LabelledNodes) (shape : TextShape) (addresses : List ℕ) (s t : State) (bytes : List ℕ)
    → IsShapeOf l shape → IsFormedAt l s.at → FitsWell l shape s → step l shape addresses s ≡ Goes t bytes → FitsWell l shape t

-- so each state of the portable meaning of nodes that have the operands of their operations fits
abbrev pub MeansFit : Type 0
MeansFit = (l : LabelledNodes) (shape : TextShape) (addresses : List ℕ) (e : Entry) (b : Option Label) (k : ℕ)
    → IsShapeOf l shape → All InForm l.nodes → MayEnter e → MayBegin l b → FitsWell l shape (mean_from l shape addresses (entered_state e (begins_at l b)) k).state

-- where a state fits at a node of a function, the running frame has that function's size and locals after the `prolog`, and neither at it
abbrev pub FramesAreOfFunctions : Type 0
FramesAreOfFunctions = (l : LabelledNodes) (shape : TextShape) (s : State) (p : ℕ) → IsShapeOf l shape → Fits l shape s → home l.nodes s.at ≡ Some p
    → (is_prolog_at (slice_get l.nodes s.at) ≡ false → IsRunning shape.functions s)
    × (is_prolog_at (slice_get l.nodes s.at) ≡ true → IsBeginning shape.functions s)

-- a step takes no byte out of the data, the arguments and the heap, and the heap mark never falls
abbrev pub StepsGrow : Type 0
StepsGrow = (l : LabelledNodes) (shape : TextShape) (addresses : List ℕ) (s t : State) (bytes : List ℕ)
    → IsShapeOf l shape → FitsWell l shape s → step l shape addresses s ≡ Goes t bytes → Grows s t

-- so memory holds the data part and the argument part throughout, and nothing else in their ranges
abbrev pub MeansHoldParts : Type 0
MeansHoldParts = (l : LabelledNodes) (shape : TextShape) (addresses image args : List ℕ) (k : ℕ)
    → IsShapeOf l shape → All InForm l.nodes → length image ≤ 0x1000000 → length args ≤ most_args
    → HoldsParts image args (mean l shape addresses image args k).state

-- where a state fits, only the locals of the frames are open in the stack
abbrev pub FitsOpensLocals : Type 0
FitsOpensLocals = (l : LabelledNodes) (shape : TextShape) (s : State) → FitsWell l shape s → HasSmallParts s → OpensLocalsAlone s

-- where each byte of an access is open, the access lies in one part: no two of them are that near
abbrev pub AccessesLieInOnePart : Type 0
AccessesLieInOnePart = (l : LabelledNodes) (shape : TextShape) (s : State) (a w : ℕ)
    → FitsWell l shape s → HasSmallParts s → 0 < w → w ≤ 8 → writable (is_open s) a w ≡ true → LiesInOnePart s a w

-- ---- runs
-- a run that is over stays, what was written stays written, and a step that ends a run or is undefined writes nothing
abbrev pub MeansAreMachines : Type 0
MeansAreMachines = (l : LabelledNodes) (shape : TextShape) (addresses : List ℕ)
    → IsMachine (machine l shape addresses) × EndsSilently (machine l shape addresses)

-- where a run that goes on is after k steps, its next step leads to where it is after k + 1
abbrev pub StepsAreMeans : Type 0
StepsAreMeans = (l : LabelledNodes) (shape : TextShape) (addresses : List ℕ) (start s : State) (out : List ℕ) (k : ℕ)
    → mean_from l shape addresses start k ≡ run_at s out → mean_from l shape addresses start (k + 1) ≡ behind (run_at s out) (step l shape addresses s)

-- ---- undefined steps
-- there is a reason exactly where a step is undefined
abbrev pub IsWhy : Outcome → Option Reason → Type 0
IsWhy (Goes t bytes) reason = reason ≡ None
IsWhy (Ends status) reason = reason ≡ None
IsWhy Undefined reason = IsSome reason

-- a step of a state that fits is undefined exactly where a row of the table of undefined steps holds
abbrev pub StepsAreUndefinedByTheTable : Type 0
StepsAreUndefinedByTheTable = (l : LabelledNodes) (shape : TextShape) (addresses : List ℕ) (s : State)
    → IsShapeOf l shape → IsFormedAt l s.at → Fits l shape s → IsWhy (step l shape addresses s) (why l shape addresses s)

-- ---- addresses
-- the plain addresses are addresses of the labels, over code of at least 256 bytes for each node
abbrev pub PlainAddressesAre : Type 0
PlainAddressesAre = (l : LabelledNodes) (size : ℕ) → AreWithin l → 256 * length l.nodes ≤ size → AreAddresses l size (plain_addresses l)
