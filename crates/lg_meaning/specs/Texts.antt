-- The step of a text: that of the node at the state's place.
use Rattle.std.specs.Prelude.{ℕ, Option, Some, None, List, slice_get}
use Rattle.lg_op.specs.declared.node.Node.{Node}
use Rattle.lg_node.specs.Nodes.{LabelledNodes}
use Rattle.lg_node.specs.Shapes.{TextShape}
use Rattle.lg_meaning.specs.States.{State}
use Rattle.lg_meaning.specs.Steps.{Outcome, Undefined, Text, node_step}

-- what the steps of a text know of it
abbrev pub text : LabelledNodes → TextShape → List ℕ → Text
text nodes shape addresses = record { addresses = addresses; places = nodes.places; functions = shape.functions; taken = shape.taken }

-- the step of the node at the state's place
abbrev pub step_at : Text → Option Node → State → Outcome
step_at t None s = Undefined
step_at t (Some n) s = node_step t n n.op s

abbrev pub step : LabelledNodes → TextShape → List ℕ → State → Outcome
step l shape addresses s = step_at (text l shape addresses) (slice_get l.nodes s.at) s

abbrev pub line_of : Option Node → ℕ
line_of None = 0
line_of (Some n) = n.line

-- the line of the node at the state's place
abbrev pub line_at : LabelledNodes → State → ℕ
line_at l s = line_of (slice_get l.nodes s.at)
