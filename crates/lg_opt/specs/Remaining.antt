-- The nodes that stay of a list, and their new numbers.
use Rattle.std.specs.Prelude.{◌≡◌, ℕ, zero, suc, ◌+◌, Bool, true, false, ◌||◌, if◌then◌else◌, cond, List, [], ◌∷◌, ◌++◌, Option, Some, None, length, map, slice_get}
use Rattle.std.specs.Option.{option_map, option_to_list}
use Rattle.lg_op.specs.declared.node.Node.{Node}
use Rattle.lg_op.specs.declared.op.Op.{Op}
use Rattle.lg_op.specs.declared.op.Op.TheVariants as op
use Rattle.lg_op.specs.declared.op.ControlOp.TheVariants as control
use Rattle.lg_op.specs.declared.op.LastOperand.TheVariants as last_operand
use Rattle.lg_op.specs.declared.op.PlainOp.TheVariants as plain
use Rattle.lg_op.specs.declared.operand.Label.{Label}
use Rattle.lg_op.specs.declared.operand.Operand.{Operand}
use Rattle.lg_op.specs.declared.operand.Operand.TheVariants as operand
use Rattle.lg_node.specs.declared.place.Place.{Place}
use Rattle.lg_node.specs.declared.place.Place.TheVariants as place
use Rattle.lg_node.specs.Functions.{home}
use Rattle.lg_node.specs.Labels.{place_of, is_labelled}
use Rattle.lg_node.specs.Nodes.{LabelledNodes}
use Rattle.lg_node.specs.ShapeLaws.{has_target, JumpsTo}

-- how many of the first nodes stay: the new number of a node that stays, and for one that does not that of the next node that does
unfoldable pub new_number : (ℕ → Bool) → ℕ → ℕ
new_number stays zero = 0
new_number stays (suc i) = new_number stays i + cond (stays i) 1 0

-- what stays of the first nodes, where these are in their place
unfoldable pub remaining : {X : Type 0} → (ℕ → Bool) → (ℕ → Option X) → ℕ → List X
remaining stays node zero = []
remaining stays node (suc i) = remaining stays node i ++ (cond (stays i) (option_to_list (node i)) [])

-- a label of a node that does not stay moves to the next that does
abbrev pub moved_place : (ℕ → ℕ) → Option Place → Option Place
moved_place to (Some (place.Node k)) = Some (place.Node (to k))
moved_place to p = p

-- operands the first of which is this label
abbrev pub with_first : List Operand → Label → List Operand
with_first [] y = []
with_first (x ∷ xs) y = operand.Label y ∷ xs

-- a node with another target, where one is given
abbrev pub retargeted : Option Label → Node → Node
retargeted None n = n
retargeted (Some y) n = record n { operands = with_first n.operands y }

-- the nodes that stay, some with other targets, and the labels in their new places
abbrev pub rewritten : LabelledNodes → (ℕ → Bool) → (ℕ → Option Label) → LabelledNodes
rewritten l stays targets = record {
  nodes = remaining stays (λ i. option_map (retargeted (targets i)) (slice_get l.nodes i)) (length l.nodes);
  words = l.words;
  places = map (moved_place (new_number stays)) l.places;
}

-- no other targets
abbrev pub no_targets : ℕ → Option Label
no_targets i = None

-- the old numbers of the nodes that stay, rising
abbrev pub origins : (ℕ → Bool) → ℕ → List ℕ
origins stays n = remaining stays (λ i. Some i) n

-- what may be dropped without changing functions, locals and calls: what only makes words, and `jmpi`
abbrev pub may_go : Op → Bool
may_go (op.Binary o last) = true
may_go (op.Wide o last) = true
may_go (op.Unary o) = true
may_go (op.Plain plain.Movi) = true
may_go (op.Load v at) = true
may_go (op.Retval v) = true
may_go (op.Getarg v) = true
may_go (op.Control control.Jmp last_operand.Immediate) = true
may_go o = false

-- what is dropped may be, and other targets are those of branches and jumps, and lead where these may
pub record IsRewriting (l : LabelledNodes) (stays : ℕ → Bool) (targets : ℕ → Option Label) : Type 0 where
  pub goes : (i : ℕ) (n : Node) → slice_get l.nodes i ≡ Some n → stays i ≡ false → may_go n.op ≡ true
  pub leads : (i : ℕ) (n : Node) (y : Label) → slice_get l.nodes i ≡ Some n → targets i ≡ Some y
      → (has_target n.op ≡ true) × JumpsTo l (home l.nodes i) (place_of l.places y)

-- a label is bound at a node, or at a dropped one between it and the last before it that stays
abbrev pub labelled_from : List (Option Place) → (ℕ → Bool) → ℕ → Bool
labelled_from places stays zero = is_labelled places 0
labelled_from places stays (suc i) = is_labelled places (suc i) || (if stays i then false else labelled_from places stays i)
