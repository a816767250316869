-- The shape of an accepted text: its functions, the labels that are taken, and the successors of each node.
use Rattle.std.specs.Prelude.{◌≡◌, ◌⊎◌, ℕ, ◌+◌, ◌<◌, Bool, true, false, List, ◌∷◌, Option, Some, None, Result, Ok, Err, length, slice_get, slice_index_or}
use Rattle.lg_base.specs.declared.refusal.Refusal.{Refusal}
use Rattle.lg_op.specs.declared.op.Op.{Op}
use Rattle.lg_op.specs.declared.op.Op.TheVariants.{Branch, BranchSum, Control, Plain}
use Rattle.lg_op.specs.declared.op.ControlOp.TheVariants as control
use Rattle.lg_op.specs.declared.op.PlainOp.TheVariants as plain
use Rattle.lg_op.specs.declared.op.LastOperand.TheVariants as last_operand
use Rattle.lg_op.specs.declared.operand.Operand.{Operand}
use Rattle.lg_op.specs.declared.operand.Operand.TheVariants as operand
use Rattle.lg_op.specs.declared.node.Node.{Node}
use Rattle.lg_node.specs.declared.function.Function.{Function}
use Rattle.lg_node.specs.declared.place.Place.{Place}
use Rattle.lg_node.specs.declared.place.Place.TheVariants as place
use Rattle.lg_node.specs.Nodes.{LabelledNodes}
use Rattle.lg_node.specs.Functions.{home, functions}
use Rattle.lg_node.specs.Labels.{place_of, taken_labels}
use Rattle.lg_node.specs.Checks.{IsAccepted, IsRefused}

-- the functions in order, and of each label whether it is taken
pub record TextShape : Type 0 where
  pub functions : List Function
  pub taken : List Bool

-- the shape of nodes, where these labels are taken
abbrev pub shape_of : List Node → List Bool → TextShape
shape_of nodes taken = record { functions = functions nodes; taken = taken }

-- a shape is that of these nodes, which are accepted; the taken labels are those of a text that they may be a rewriting of
pub record IsShapeOf (l : LabelledNodes) (s : TextShape) : Type 0 where
  pub accepted : IsAccepted l
  pub functions : s.functions ≡ functions l.nodes

-- a text has this shape, or is refused so
abbrev pub IsChecked : LabelledNodes → Result TextShape Refusal → Type 0
IsChecked l (Ok s) = IsShapeOf l s × (s.taken ≡ taken_labels l)
IsChecked l (Err r) = IsRefused l r

abbrev pub IsTaken : TextShape → ℕ → Type 0
IsTaken s label = slice_index_or s.taken label false ≡ true

-- the ways out of an operation
pub data Way : Type 0 where
  Next : Way
  Jump : Way
  Either : Way
  Taken : Way
  Leave : Way

-- `jmpi` goes to its target; a branch there or to the next node; `jmpr` to a taken label of its function; returns leave the function; every
-- other node goes to the next, calls too
abbrev pub way_of : Op → Way
way_of (Control control.Jmp last_operand.Immediate) = Jump
way_of (Control control.Jmp last_operand.Register) = Taken
way_of (Control control.Ret last) = Leave
way_of (Branch condition last) = Either
way_of (BranchSum sum last) = Either
way_of (Plain plain.Ret) = Leave
way_of (Plain plain.Epilog) = Leave
way_of op = Next

-- the place of the label that is the first operand, the target of a branch or jump
abbrev pub target_of : List (Option Place) → List Operand → Option Place
target_of places (operand.Label x ∷ xs) = place_of places x
target_of places xs = None

-- node k is the next one after node i
abbrev pub IsNext : LabelledNodes → ℕ → ℕ → Type 0
IsNext l i k = (k ≡ i + 1) × (k < length l.nodes)

abbrev pub IsTarget : LabelledNodes → Node → ℕ → Type 0
IsTarget l n k = target_of l.places n.operands ≡ Some (place.Node k)

-- a taken label is bound at node k, in the function of node i after its `prolog`
pub record IsTakenIn (l : LabelledNodes) (s : TextShape) (i k : ℕ) : Type 0 where
  pub label : ℕ
  pub taken : IsTaken s label
  pub place : slice_get l.places label ≡ Some (Some (place.Node k))
  pub function : ℕ
  pub here : home l.nodes i ≡ Some function
  pub there : home l.nodes k ≡ Some function
  pub behind : function < k

abbrev pub GoesBy : LabelledNodes → TextShape → ℕ → Node → Way → ℕ → Type 0
GoesBy l s i n Next k = IsNext l i k
GoesBy l s i n Jump k = IsTarget l n k
GoesBy l s i n Either k = IsTarget l n k ⊎ IsNext l i k
GoesBy l s i n Taken k = IsTakenIn l s i k
GoesBy l s i n Leave k = ⊥

-- node k is a successor of node i
pub record IsSuccessor (l : LabelledNodes) (s : TextShape) (i k : ℕ) : Type 0 where
  pub node : Node
  pub here : slice_get l.nodes i ≡ Some node
  pub goes : GoesBy l s i node (way_of node.op) k
