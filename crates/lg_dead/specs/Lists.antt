-- Lists of nodes that are being folded.
use Rattle.std.specs.Prelude.{◌≡◌, ℕ, ◌<◌, true, if◌then◌else◌, List, Some, None, length, slice_get}
use Rattle.lg_op.specs.declared.node.Node.{Node}
use Rattle.lg_op.specs.declared.operand.Reg.{Reg}
use Rattle.lg_node.specs.Labels.{is_labelled}
use Rattle.lg_node.specs.Nodes.{LabelledNodes}
use Rattle.lg_node.specs.Shapes.{TextShape, IsShapeOf}
use Rattle.lg_opt.specs.Remaining.{origins}
use Rattle.lg_dead.specs.declared.known.Known.{Known}
use Rattle.lg_dead.specs.Folds.{IsFoldedTo}
use Rattle.lg_dead.specs.Known.{folded, known_before}
use Rattle.lg_dead.specs.Tables.{known_of}

-- other nodes, with the labels where they were
abbrev pub with_nodes : LabelledNodes → List Node → LabelledNodes
with_nodes l ns = record l { nodes = ns }

-- the first nodes, folded
pub record AreFolded (l : LabelledNodes) (ns : List Node) (count : ℕ) : Type 0 where
  pub many : length ns ≡ count
  pub each : (i : ℕ) (n : Node) → i < count → slice_get l.nodes i ≡ Some n → slice_get ns i ≡ Some (folded (known_before (with_nodes l ns) i) n)

-- what is known after the node before one
abbrev pub AreAfter : LabelledNodes → List Node → ℕ → Known → Type 0
AreAfter l ns i k = (r : Reg) → (if is_labelled l.places i then None else known_of k r) ≡ known_before (with_nodes l ns) i r

-- what folding makes of nodes
pub record IsFoldedList (l : LabelledNodes) (shape : TextShape) (m : LabelledNodes) (new_shape : TextShape) (origin : List ℕ) : Type 0 where
  pub nodes : IsFoldedTo l m
  pub shaped : IsShapeOf m new_shape
  pub taken : new_shape.taken ≡ shape.taken
  pub from : origin ≡ origins (λ i. true) (length l.nodes)
