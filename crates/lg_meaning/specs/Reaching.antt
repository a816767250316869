-- Where the steps of an accepted text lead.
use Rattle.std.specs.Prelude.{◌≡◌, ◌⊎◌, ℕ, ◌<◌, Bool, true, false, List, Some, None, length, slice_get}
use Rattle.lg_op.specs.Nodes.{InForm}
use Rattle.lg_op.specs.declared.node.Node.{Node}
use Rattle.lg_op.specs.declared.op.Op.{Op}
use Rattle.lg_op.specs.declared.op.Op.TheVariants as op
use Rattle.lg_op.specs.declared.op.ControlOp.TheVariants as control
use Rattle.lg_op.specs.declared.op.LastOperand.TheVariants as last_operand
use Rattle.lg_op.specs.declared.op.PlainOp.TheVariants as plain
use Rattle.lg_node.specs.declared.place.Place.TheVariants as place
use Rattle.lg_node.specs.Functions.{home}
use Rattle.lg_node.specs.Nodes.{LabelledNodes}
use Rattle.lg_node.specs.Shapes.{TextShape, IsShapeOf, IsSuccessor, IsTaken}
use Rattle.lg_meaning.specs.States.{State}
use Rattle.lg_meaning.specs.Steps.{Goes}
use Rattle.lg_meaning.specs.Texts.{step}

-- `ret`, `retr`, `reti` and `epilog`
abbrev pub is_return : Op → Bool
is_return (op.Control control.Ret last) = true
is_return (op.Plain plain.Ret) = true
is_return (op.Plain plain.Epilog) = true
is_return o = false

-- to a successor, or to the begin of a function, where no register is defined
abbrev pub Reaches : LabelledNodes → TextShape → State → State → Type 0
Reaches l shape s t = IsSuccessor l shape s.at t.at ⊎ ((r : ℕ) → t.regs r ≡ None)

-- a step that goes to a node, from one that is no return
abbrev pub StepsReachSuccessors : Type 0
StepsReachSuccessors = (l : LabelledNodes) (shape : TextShape) (addresses : List ℕ) (s t : State) (n : Node) (bytes : List ℕ) → IsShapeOf l shape
    → InForm n → slice_get l.nodes s.at ≡ Some n
    → is_return n.op ≡ false → step l shape addresses s ≡ Goes t bytes → t.at < length l.nodes → Reaches l shape s t

-- a label that is taken and bound at a node of a function after its `prolog` is a successor of each `jmpr` of that function
abbrev pub TakenLabelsAreSuccessors : Type 0
TakenLabelsAreSuccessors = (l : LabelledNodes) (shape : TextShape) (i k label function : ℕ) (n : Node) → slice_get l.nodes i ≡ Some n
    → n.op ≡ op.Control control.Jmp last_operand.Register → home l.nodes i ≡ Some function
    → IsTaken shape label → slice_get l.places label ≡ Some (Some (place.Node k)) → home l.nodes k ≡ Some function → function < k → IsSuccessor l shape i k
