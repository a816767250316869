-- What rewritten nodes are to the nodes that they were rewritten from.
use Rattle.std.specs.Prelude.{◌≡◌, ◌⊎◌, ◌↔◌, ℕ, ◌<◌, ◌≤◌, Bool, true, false, List, [], Option, Some, None, length, drop, replicate, slice_get, slice_index, slice_index_or}
use Rattle.lg_op.specs.declared.node.Node.{Node}
use Rattle.lg_op.specs.declared.op.Op.{Op}
use Rattle.lg_op.specs.declared.operand.Label.{Label}
use Rattle.lg_node.specs.declared.place.Place.TheVariants as place
use Rattle.lg_node.specs.Nodes.{LabelledNodes}
use Rattle.lg_node.specs.ShapeLaws.{has_target}
use Rattle.lg_node.specs.Shapes.{TextShape, IsShapeOf}
use Rattle.lg_meaning.specs.Addresses.{IsBound, AreAddresses}
use Rattle.lg_opt.specs.Rewritten.{MeaningIsFollowed}
use Rattle.lg_opt.specs.Goals as goals
use Rattle.lg_opt.specs.Hops.{HasNoIdleJumps}
use Rattle.lg_opt.specs.Moves.{HasNoIdleMoves}
use Rattle.lg_opt.specs.Moves as moves
use Rattle.lg_opt.specs.Remaining.{retargeted, rewritten, no_targets, origins}
use Rattle.lg_opt.specs.Targets.{AreTargets}
use Rattle.lg_opt.specs.Runs.{AreDropped, AreThreaded}
use Rattle.lg_meaning.specs.Starts.{Entry, MayEnter, begins_at, MayBegin, entered_state}
use Rattle.lg_meaning.specs.States.{State}

-- each new node corresponds to the old one of a number, and the numbers rise
pub record IsOrigin (Stands : Node → Node → Type 0) (l m : LabelledNodes) (origin : List ℕ) : Type 0 where
  pub count : length origin ≡ length m.nodes
  pub rises : (i k : ℕ) → i < k → k < length origin → slice_index origin i < slice_index origin k
  pub nodes : (k : ℕ) (n : Node) → slice_get m.nodes k ≡ Some n → (old : Node) × (slice_get l.nodes (slice_index origin k) ≡ Some old) × Stands old n

-- a node corresponds to itself
abbrev pub IsSameNode : Node → Node → Type 0
IsSameNode old n = n ≡ old

-- or it is a branch or jump with another label as its target
abbrev pub IsThreadedNode : Node → Node → Type 0
IsThreadedNode old n = (n ≡ old) ⊎ ((has_target old.op ≡ true) × (y : Label) × (n ≡ retargeted (Some y) old))

-- of a node and another the operation and the line are the same, and all operands but the first
pub record IsAlikeButForTarget (old n : Node) : Type 0 where
  pub op : n.op ≡ old.op
  pub line : n.line ≡ old.line
  pub others : drop 1 n.operands ≡ drop 1 old.operands

-- so it is where jumps are threaded: nothing of a node changes but its target
abbrev pub ThreadedNodesStay : Type 0
ThreadedNodesStay = (old n : Node) → IsThreadedNode old n → IsAlikeButForTarget old n

-- every node is there but for those of these operations
abbrev pub KeepsOthers : (Op → Bool) → LabelledNodes → List ℕ → Type 0
KeepsOthers goes l origin = (i : ℕ) (n : Node) → slice_get l.nodes i ≡ Some n → goes n.op ≡ false → (k : ℕ) × (slice_get origin k ≡ Some i)

-- a new node is the first of those that correspond to an old one from number i on
pub record IsFirstFrom (origin : List ℕ) (i k : ℕ) : Type 0 where
  pub within : k ≤ length origin
  pub before : (j : ℕ) → j < k → slice_index origin j < i
  pub behind : (j : ℕ) → k ≤ j → j < length origin → i ≤ slice_index origin j

-- the labels are the same ones; those of data are bound where they were, and one at a node at the first node that stays from there on
pub record KeepsLabels (l m : LabelledNodes) (origin : List ℕ) : Type 0 where
  pub words : m.words ≡ l.words
  pub count : length m.places ≡ length l.places
  pub images : (x k : ℕ) → IsBound m x (place.Image k) → IsBound l x (place.Image k)
  pub nodes : (x i : ℕ) → IsBound l x (place.Node i) → (k : ℕ) × IsBound m x (place.Node k) × IsFirstFrom origin i k

-- of n nodes those stay for which a new one stands, and each of them, and the end, leads to the first new node that stays from there on
pub record IsNumberedBy (origin : List ℕ) (count : ℕ) (stays : ℕ → Bool) (to : ℕ → ℕ) : Type 0 where
  pub kept : (i : ℕ) → i < count → (stays i ≡ true) ↔ ((k : ℕ) × (slice_get origin k ≡ Some i))
  pub first : (i : ℕ) → i ≤ count → IsFirstFrom origin i (to i)

-- addresses of the labels in the new nodes are addresses of them in the old ones
abbrev pub CarriesAddresses : LabelledNodes → LabelledNodes → Type 0
CarriesAddresses l m = (size : ℕ) (addresses : List ℕ) → AreAddresses m size addresses → AreAddresses l size addresses

-- the new run follows the old one: it steps where the old one is at a node for which a new one stands
abbrev pub RunIsDropped : LabelledNodes → TextShape → LabelledNodes → TextShape → List ℕ → List ℕ → State → State → Type 0
RunIsDropped l shape m new_shape origin addresses s t =
    (run : AreDropped l shape m new_shape addresses s t) × IsNumberedBy origin (length l.nodes) run.stays run.to

-- from each start: where a run may begin at a label of the old nodes, so may one at that label of the new nodes, and the two states there have this to each other
abbrev pub FromEachStart : LabelledNodes → LabelledNodes → (State → State → Type 0) → Type 0
FromEachStart l m Holds =
    (e : Entry) (b : Option Label) → MayEnter e → MayBegin l b → MayBegin m b × Holds (entered_state e (begins_at l b)) (entered_state e (begins_at m b))

-- over addresses of the labels in the new nodes the new run follows the old one, from each start
abbrev pub RunsAreDropped : LabelledNodes → TextShape → LabelledNodes → TextShape → List ℕ → Type 0
RunsAreDropped l shape m new_shape origin =
    (size : ℕ) (addresses : List ℕ) → AreAddresses m size addresses → FromEachStart l m (RunIsDropped l shape m new_shape origin addresses)

abbrev pub RunsAreThreaded : LabelledNodes → TextShape → LabelledNodes → TextShape → Type 0
RunsAreThreaded l shape m new_shape =
    (size : ℕ) (addresses : List ℕ) → AreAddresses m size addresses → FromEachStart l m (AreThreaded l shape m new_shape addresses)

abbrev pub RunsAreFollowed : LabelledNodes → TextShape → LabelledNodes → TextShape → Type 0
RunsAreFollowed l shape m new_shape =
    (size : ℕ) (addresses : List ℕ) → AreAddresses m size addresses → FromEachStart l m (MeaningIsFollowed l shape m new_shape addresses)

-- no needless move, no jump to a jump and none to what follows
pub record IsTidy (l : LabelledNodes) : Type 0 where
  pub moves : HasNoIdleMoves l
  pub jumps : HasNoIdleJumps l has_target

-- ---- tables
-- what a table has of a node
abbrev pub marked : List Bool → ℕ → Bool
marked table i = slice_index_or table i false

abbrev pub target_in : List (Option Label) → ℕ → Option Label
target_in table i = slice_index_or table i None

-- other targets are those of branches and jumps
abbrev pub TargetsAreOfJumps : LabelledNodes → List (Option Label) → Type 0
TargetsAreOfJumps l targets = (i : ℕ) (n : Node) (y : Label) → slice_get l.nodes i ≡ Some n → target_in targets i ≡ Some y → has_target n.op ≡ true

-- which nodes stay and which targets they get where jumps are threaded
pub record AreTables (l : LabelledNodes) (kept : List Bool) (targets : List (Option Label)) : Type 0 where
  pub count : length kept ≡ length l.nodes
  pub stays : (i : ℕ) → i < length l.nodes → marked kept i ≡ goals.stays l i
  pub targets_are : AreTargets l (target_in targets)

-- no nodes, and these labels, none of them bound
abbrev pub unbound : List (List ℕ) → LabelledNodes
unbound words = record { nodes = []; words = words; places = replicate (length words) None }

-- what dropping idle moves, and threading jumps, make of nodes: which nodes stay and which targets they get
pub record IsDroppedTo (l : LabelledNodes) (shape : TextShape) (m : LabelledNodes) (new_shape : TextShape) (origin : List ℕ) : Type 0 where
  pub nodes : m ≡ rewritten l (moves.stays l) no_targets
  pub shaped : IsShapeOf m new_shape
  pub taken : new_shape.taken ≡ shape.taken
  pub from : origin ≡ origins (moves.stays l) (length l.nodes)

pub record IsThreadedTo (l : LabelledNodes) (shape : TextShape) (m : LabelledNodes) (new_shape : TextShape) (origin : List ℕ) : Type 0 where
  pub targets : ℕ → Option Label
  pub are : AreTargets l targets
  pub nodes : m ≡ rewritten l (goals.stays l) targets
  pub shaped : IsShapeOf m new_shape
  pub taken : new_shape.taken ≡ shape.taken
  pub from : origin ≡ origins (goals.stays l) (length l.nodes)
