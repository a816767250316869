-- What the four rewrites make of the nodes of a text.
use Rattle.std.specs.Prelude.{◌≡◌, ℕ, ◌||◌, Bool, List, map, slice_index}
use Rattle.lg_op.specs.declared.node.Node.{Node}
use Rattle.lg_op.specs.declared.op.Op.{Op}
use Rattle.lg_node.specs.Nodes.{LabelledNodes}
use Rattle.lg_node.specs.Shapes.{TextShape, IsShapeOf}
use Rattle.lg_live.specs.Definitions.{defines}
use Rattle.lg_meaning.specs.Addresses.{AreAddresses}
use Rattle.lg_opt.specs.Hops.{is_jump}
use Rattle.lg_opt.specs.Rewritings.{IsOrigin, IsThreadedNode, IsTidy, KeepsOthers, KeepsLabels, IsThreadedTo, FromEachStart}
use Rattle.lg_opt.specs.Rewritings as moves
use Rattle.lg_opt.specs.Runs.{AreDropped}
use Rattle.lg_dead.specs.Dropping as definitions
use Rattle.lg_dead.specs.Folds.{IsFoldedNode, IsFoldedTo, ComesFolded}
use Rattle.lg_dead.specs.Known.{HasNoFolds}
use Rattle.lg_dead.specs.Dead.{HasNoDeadButMoves}

-- what may be dropped: definitions, and jumps to labels
abbrev pub is_droppable : Op → Bool
is_droppable o = defines o || is_jump o

-- a node is another, folded by some numbers that are known, and with another target where it is a branch or jump
abbrev pub IsRewrittenNode : Node → Node → Type 0
IsRewrittenNode old n = (middle : Node) × IsFoldedNode old middle × IsThreadedNode middle n

-- ---- the rewrites, one after the other
-- nodes that were folded, and then lost exactly the definitions that nothing needs
pub record ComesNeeded (l m : LabelledNodes) (shape : TextShape) (origin : List ℕ) : Type 0 where
  pub middle : LabelledNodes
  pub middle_shape : TextShape
  pub shaped : IsShapeOf middle middle_shape
  pub folded : IsFoldedTo l middle
  pub dropped : definitions.IsDroppedTo middle middle_shape m shape origin

-- such nodes, which then lost exactly the moves that do nothing
pub record ComesMoved (l m : LabelledNodes) (shape : TextShape) (origin : List ℕ) : Type 0 where
  pub middle : LabelledNodes
  pub middle_shape : TextShape
  pub first : List ℕ
  pub second : List ℕ
  pub needed : ComesNeeded l middle middle_shape first
  pub dropped : moves.IsDroppedTo middle middle_shape m shape second
  pub joined : origin ≡ map (slice_index first) second

-- and such ones whose jumps were then threaded
pub record ComesThreaded (l m : LabelledNodes) (shape : TextShape) (origin : List ℕ) : Type 0 where
  pub middle : LabelledNodes
  pub middle_shape : TextShape
  pub first : List ℕ
  pub second : List ℕ
  pub moved : ComesMoved l middle middle_shape first
  pub threaded : IsThreadedTo middle middle_shape m shape second
  pub joined : origin ≡ map (slice_index first) second

-- final nodes of a text: they are its nodes, folded by what is known before each of them and then threaded, until nothing is left to do, and every other node
-- of it is among them, as its labels are; and of the definitions and jumps exactly those that each rewrite leaves
pub record AreFinal (l m : LabelledNodes) (shape : TextShape) (origin : List ℕ) : Type 0 where
  pub shaped : IsShapeOf m shape
  pub tidy : IsTidy m
  pub folds : HasNoFolds m
  pub dead : HasNoDeadButMoves m shape
  pub from : IsOrigin IsRewrittenNode l m origin
  pub folded : ComesFolded IsThreadedNode l m origin
  pub others : KeepsOthers is_droppable l origin
  pub labels : KeepsLabels l m origin
  pub made : ComesThreaded l m shape origin

-- over addresses of the labels in the new nodes the new run steps with the old one, or rests, from each start
abbrev pub RunsRest : LabelledNodes → TextShape → LabelledNodes → TextShape → Type 0
RunsRest l shape m new_shape = (size : ℕ) (addresses : List ℕ) → AreAddresses m size addresses → FromEachStart l m (AreDropped l shape m new_shape addresses)
