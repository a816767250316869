-- Where jumps lead.
use Rattle.std.specs.Prelude.{◌≡◌, ◌≢◌, ℕ, suc, ◌<◌, ◌≤◌, Bool, true, false, if◌then◌else◌, List, Option, Some, None, length, slice_get, slice_index}
use Rattle.lg_base.specs.Runs.{iter}
use Rattle.lg_op.specs.declared.node.Node.{Node}
use Rattle.lg_op.specs.declared.op.Op.{Op}
use Rattle.lg_op.specs.declared.op.Op.TheVariants.{Control}
use Rattle.lg_op.specs.declared.op.ControlOp.TheVariants.{Jmp}
use Rattle.lg_op.specs.declared.op.LastOperand.TheVariants.{Immediate}
use Rattle.lg_node.specs.Nodes.{LabelledNodes}
use Rattle.lg_node.specs.declared.place.Place.{Place}
use Rattle.lg_meaning.specs.Steps.{operand_at, node_of_label}

-- an unconditional jump
abbrev pub is_jump : Op → Bool
is_jump (Control Jmp Immediate) = true
is_jump o = false

abbrev pub is_jump_at : Option Node → Bool
is_jump_at None = false
is_jump_at (Some n) = is_jump n.op

abbrev pub jump_at : LabelledNodes → ℕ → Bool
jump_at l i = is_jump_at (slice_get l.nodes i)

-- the node to which a jump goes; a node that is none stays
abbrev pub hop_of : List (Option Place) → ℕ → Option Node → ℕ
hop_of places i None = i
hop_of places i (Some n) = if is_jump n.op then node_of_label places (operand_at n 0) else i

abbrev pub hop : LabelledNodes → ℕ → ℕ
hop l i = hop_of l.places i (slice_get l.nodes i)

-- following the jumps from a node reaches a node twice
pub record ComesTwice (l : LabelledNodes) (i : ℕ) : Type 0 where
  pub first : ℕ
  pub second : ℕ
  pub order : first < second
  pub jump : jump_at l (iter (hop l) first i) ≡ true
  pub same : iter (hop l) first i ≡ iter (hop l) second i

-- a table has of each node where the jump at it goes
abbrev pub AreHops : LabelledNodes → List ℕ → Type 0
AreHops l table = (i : ℕ) → i < length table → slice_index table i ≡ hop l i

-- a table has of a node where this many jumps from it, or more, lead
pub record IsLead (l : LabelledNodes) (w : ℕ) (table : List ℕ) (i : ℕ) : Type 0 where
  pub jumps : ℕ
  pub many : w ≤ jumps
  pub is : slice_index table i ≡ iter (hop l) jumps i

-- and of each node
abbrev pub AreLeads : LabelledNodes → ℕ → List ℕ → Type 0
AreLeads l w table = (i : ℕ) → i < length table → IsLead l w table i

-- and each lead is a node
abbrev pub AreWithin : List ℕ → Type 0
AreWithin table = (i : ℕ) → i < length table → slice_index table i < length table

-- jumps go to nodes
abbrev pub JumpsWithin : LabelledNodes → Type 0
JumpsWithin l = (i : ℕ) → i < length l.nodes → hop l i < length l.nodes

-- ---- what is promised of the nodes that stay
-- no jump or branch names a label in front of a jump, unless following the jumps from there reaches a node twice; and no jump goes to the next node
pub record HasNoIdleJumps (l : LabelledNodes) (has_target : Op → Bool) : Type 0 where
  pub last : (i : ℕ) (n : Node) → slice_get l.nodes i ≡ Some n → has_target n.op ≡ true
      → is_jump_at (slice_get l.nodes (node_of_label l.places (operand_at n 0))) ≡ true → ComesTwice l (node_of_label l.places (operand_at n 0))
  pub farther : (i : ℕ) (n : Node) → slice_get l.nodes i ≡ Some n → is_jump n.op ≡ true → node_of_label l.places (operand_at n 0) ≢ suc i
