-- The nodes of expressions, and their units.
use Rattle.std.specs.Prelude.{ℕ, zero, suc, ◌+◌, ◌-◌, ◌*◌, ◌≤◌, List, [], ◌∷◌, ◌++◌, length, Some, codes}
use Rattle.lg_base.specs.declared.host_name.HostName.TheVariants as host
use Rattle.lg_op.specs.declared.op.Op.{Op}
use Rattle.lg_op.specs.declared.op.Op.TheVariants.{Binary, Control, Getarg, Load, Plain, Retval, Store, Unary}
use Rattle.lg_op.specs.declared.op.Addressing.TheVariants.{RegisterImmediate}
use Rattle.lg_op.specs.declared.op.ControlOp.TheVariants as control
use Rattle.lg_op.specs.declared.op.LastOperand.TheVariants as last_operand
use Rattle.lg_op.specs.declared.op.PlainOp.TheVariants as plain
use Rattle.lg_op.specs.declared.op.StoreType.TheVariants as store
use Rattle.lg_op.specs.declared.op.UnaryOp.TheVariants.{Mov, Neg}
use Rattle.lg_op.specs.declared.op.ValueType.TheVariants as value
use Rattle.lg_op.specs.declared.operand.Operand.{Operand}
use Rattle.lg_op.specs.declared.operand.Operand.TheVariants as operand
use Rattle.lg_op.specs.declared.operand.Reg.TheVariants as reg
use Rattle.lg_op.specs.declared.operand.Label.{Label}
use Rattle.lg_op.specs.declared.node.Node.{Node}
use Rattle.lg_node.specs.declared.place.Place.TheVariants as place
use Rattle.lg_node.specs.declared.unit.Unit.{Unit}
use Rattle.lg_node.specs.Nodes.{LabelledNodes}
use Rattle.lg_node.specs.Unused.{numbered}
use Rattle.lg_meaning.specs.Addresses.{IsBound}
use Rattle.lg_expression.specs.declared.step.Step.{Step}
use Rattle.lg_expression.specs.declared.step.Step.TheVariants.{Number, Argument, Negate, Operation}
use Rattle.lg_expression.specs.Steps.{behind}

-- ---- nodes

abbrev pub node : Op → List Operand → Node
node op operands = record { op = op; operands = operands; line = 1 }

abbrev pub put_nodes : LabelledNodes → List Node → LabelledNodes
put_nodes l nodes = record l { nodes = l.nodes ++ nodes }

-- the frame pointer, a value that is fetched, the topmost value, the argument
abbrev pub fp : Operand
fp = operand.Reg reg.Fp

abbrev pub r0 : Operand
r0 = operand.Reg reg.R0

abbrev pub v0 : Operand
v0 = operand.Reg reg.V0

abbrev pub v1 : Operand
v1 = operand.Reg reg.V1

-- ---- the steps

-- where the value of a place of the stack waits: 384 bytes below FP the first one
abbrev pub waiting : ℕ → Operand
waiting place = operand.Number (0xfffffffffffffe80 + 8 * place)

-- the topmost of n values is put aside
abbrev pub aside : ℕ → List Node
aside zero = []
aside (suc place) = node (Store store.Long RegisterImmediate) (waiting place ∷ fp ∷ v0 ∷ []) ∷ []

-- the nodes of a step, where this many values are on the stack: the topmost one in V0, those below in the frame
abbrev pub step_nodes : ℕ → Step → List Node
step_nodes values (Number n) = aside values ++ (node (Plain plain.Movi) (v0 ∷ operand.Number n ∷ []) ∷ [])
step_nodes values Argument = aside values ++ (node (Unary Mov) (v0 ∷ v1 ∷ []) ∷ [])
step_nodes values Negate = node (Unary Neg) (v0 ∷ v0 ∷ []) ∷ []
step_nodes values (Operation op) =
    node (Load value.Long RegisterImmediate) (r0 ∷ fp ∷ waiting (values - 2) ∷ []) ∷ node (Binary op last_operand.Register) (v0 ∷ r0 ∷ v0 ∷ []) ∷ []

abbrev pub nodes_of : ℕ → List Step → List Node
nodes_of values [] = []
nodes_of values (s ∷ steps) = step_nodes values s ++ nodes_of (behind values s) steps

-- ---- the unit

-- the argument is the number that the second word of the run says
abbrev pub head : List Node
head =
    node (Plain plain.Prolog) []
    ∷ node (Plain plain.Arg) (operand.Slot 0 ∷ [])
    ∷ node (Plain plain.Arg) (operand.Slot 1 ∷ [])
    ∷ node (Plain plain.Allocai) (operand.Number 256 ∷ operand.Slot 0 ∷ [])
    ∷ node (Getarg value.Long) (v1 ∷ operand.Slot 1 ∷ [])
    ∷ node (Load value.Long RegisterImmediate) (v1 ∷ v1 ∷ operand.Number 8 ∷ [])
    ∷ node (Plain plain.Prepare) []
    ∷ node (Control control.Pusharg last_operand.Register) (v1 ∷ [])
    ∷ node (Control control.Finish last_operand.Immediate) (operand.Host host.Atoi ∷ [])
    ∷ node (Retval value.Long) (v1 ∷ [])
    ∷ []

-- the value is printed by the format at a label
abbrev pub tail : Label → List Node
tail format =
    node (Plain plain.Prepare) []
    ∷ node (Control control.Pusharg last_operand.Immediate) (operand.Label format ∷ [])
    ∷ node (Plain plain.Ellipsis) []
    ∷ node (Control control.Pusharg last_operand.Register) (v0 ∷ [])
    ∷ node (Control control.Finish last_operand.Immediate) (operand.Host host.Printf ∷ [])
    ∷ node (Plain plain.Ret) []
    ∷ node (Plain plain.Epilog) []
    ∷ []

-- the list of no nodes and no labels
abbrev pub start : LabelledNodes
start = record { nodes = []; words = []; places = [] }

-- its one label, which has a word of its own, is bound at the first byte of the data part
abbrev pub start_with_format : LabelledNodes
start_with_format = record { nodes = []; words = numbered 0 ∷ []; places = Some (place.Image 0) ∷ [] }

abbrev pub unit_nodes : List Step → LabelledNodes
unit_nodes steps = put_nodes start_with_format (head ++ (nodes_of 0 steps ++ tail (record { 0 = 0 })))

-- the data part: a format, ended by a zero byte
abbrev pub format : List ℕ
format = codes "%ld\n\0"

-- no data label is bound after the end of the data part
abbrev pub AreInside : Unit → Type 0
AreInside u = (x k : ℕ) → IsBound u.nodes x (place.Image k) → k ≤ length u.image
