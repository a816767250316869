-- The function with which a run begins: the first one, or that to which a `jmpi` before every function leads.
use Rattle.std.specs.Prelude.{ℕ, suc, Bool, true, false, if◌then◌else◌, List, [], ◌∷◌, Option, drop}
use Rattle.lg_op.specs.declared.node.Node.{Node}
use Rattle.lg_op.specs.declared.op.Op.{Op}
use Rattle.lg_op.specs.declared.op.Op.TheVariants as op
use Rattle.lg_op.specs.declared.op.ControlOp.TheVariants as control
use Rattle.lg_op.specs.declared.op.LastOperand.TheVariants as last_operand
use Rattle.lg_op.specs.declared.op.PlainOp.TheVariants as plain
use Rattle.lg_node.specs.Nodes.{LabelledNodes}
use Rattle.lg_node.specs.declared.place.Place.{Place}
use Rattle.lg_meaning.specs.Steps.{operand_at, node_of_label}

abbrev pub is_align : Op → Bool
is_align (op.Plain plain.Align) = true
is_align o = false

abbrev pub is_jump : Op → Bool
is_jump (op.Control control.Jmp last_operand.Immediate) = true
is_jump o = false

-- the node to which control comes from the first of these nodes, which is at a number: over `.align`, and by a `jmpi`
unfoldable pub entry_from : List (Option Place) → List Node → ℕ → ℕ
entry_from places [] k = k
entry_from places (n ∷ ns) k =
    if is_align n.op then entry_from places ns (suc k) else if is_jump n.op then node_of_label places (operand_at n 0) else k

-- and from a node
abbrev pub entry_at : LabelledNodes → ℕ → ℕ
entry_at l i = entry_from l.places (drop i l.nodes) i
