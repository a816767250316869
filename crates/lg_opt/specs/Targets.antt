-- The targets of threaded branches and jumps.
use Rattle.std.specs.Prelude.{◌≡◌, ℕ, ◌<◌, true, false, if◌then◌else◌, List, Option, Some, None, is_some, length, slice_get, slice_index_or}
use Rattle.lg_op.specs.declared.node.Node.{Node}
use Rattle.lg_op.specs.declared.operand.Label.{Label}
use Rattle.lg_node.specs.declared.place.Place.TheVariants as place
use Rattle.lg_node.specs.Labels.{place_of, is_labelled}
use Rattle.lg_node.specs.Nodes.{LabelledNodes}
use Rattle.lg_node.specs.ShapeLaws.{has_target}
use Rattle.lg_meaning.specs.Steps.{operand_at, node_of_label}
use Rattle.lg_opt.specs.Goals.{lead, turns}

-- the node to which a branch or jump goes
abbrev pub target_node : LabelledNodes → Node → ℕ
target_node l n = node_of_label l.places (operand_at n 0)

-- where the jumps from a node lead in the end, or the node itself where they turn
abbrev pub end_of : LabelledNodes → ℕ → ℕ
end_of l k = if turns l k then k else lead l k

-- another target is that of a branch or jump whose own leads to jumps that end, and is bound where they do
pub record IsTargetOf (l : LabelledNodes) (n : Node) (y : Label) : Type 0 where
  pub jumps : has_target n.op ≡ true
  pub ends : turns l (target_node l n) ≡ false
  pub place : place_of l.places y ≡ Some (place.Node (lead l (target_node l n)))

-- each branch and jump has such a target, but where the jumps from its own turn, or there is none
pub record AreTargets (l : LabelledNodes) (targets : ℕ → Option Label) : Type 0 where
  pub others : (i : ℕ) (n : Node) (y : Label) → slice_get l.nodes i ≡ Some n → targets i ≡ Some y → IsTargetOf l n y
  pub own : (i : ℕ) (n : Node) → slice_get l.nodes i ≡ Some n → has_target n.op ≡ true → targets i ≡ None → end_of l (target_node l n) ≡ target_node l n

-- a table has of each node a label that is bound at it, if there is one
pub record AreLabelsAt (l : LabelledNodes) (table : List (Option Label)) : Type 0 where
  pub bound : (k : ℕ) (x : Label) → slice_index_or table k None ≡ Some x → place_of l.places x ≡ Some (place.Node k)
  pub all : (k : ℕ) → k < length table → is_labelled l.places k ≡ true → is_some (slice_index_or table k None) ≡ true

-- the target of one node
pub record IsTargetAt (l : LabelledNodes) (i : ℕ) (o : Option Label) : Type 0 where
  pub others : (n : Node) (y : Label) → slice_get l.nodes i ≡ Some n → o ≡ Some y → IsTargetOf l n y
  pub own : (n : Node) → slice_get l.nodes i ≡ Some n → has_target n.op ≡ true → o ≡ None → end_of l (target_node l n) ≡ target_node l n
