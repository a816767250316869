-- What folding makes of nodes.
use Rattle.std.specs.Prelude.{◌≡◌, ℕ, List, Option, Some, length, slice_get}
use Rattle.lg_op.specs.declared.node.Node.{Node}
use Rattle.lg_op.specs.declared.operand.Reg.{Reg}
use Rattle.lg_node.specs.Nodes.{LabelledNodes}
use Rattle.lg_opt.specs.Rewritings.{IsOrigin}
use Rattle.lg_dead.specs.Known.{folded, known_before}

-- a node is what another becomes by some numbers that are known
abbrev pub IsFoldedNode : Node → Node → Type 0
IsFoldedNode old n = (known : Reg → Option ℕ) × (n ≡ folded known old)

-- each node of the new list is the old one, folded by what is known before it in the new list
pub record IsFoldedTo (l m : LabelledNodes) : Type 0 where
  pub words : m.words ≡ l.words
  pub places : m.places ≡ l.places
  pub count : length m.nodes ≡ length l.nodes
  pub nodes : (i : ℕ) (n : Node) → slice_get l.nodes i ≡ Some n → slice_get m.nodes i ≡ Some (folded (known_before m i) n)

-- nodes come, each in this way, from those of a list that is another one folded
pub record ComesFolded (Stands : Node → Node → Type 0) (l m : LabelledNodes) (origin : List ℕ) : Type 0 where
  pub middle : LabelledNodes
  pub folded : IsFoldedTo l middle
  pub from : IsOrigin Stands middle m origin
