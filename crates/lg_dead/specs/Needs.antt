-- Which registers are needed before each node, where some definitions are dropped.
use Rattle.std.specs.Prelude.{◌≡◌, ℕ, ◌+◌, ◌<◌, Bool, true, false, List, Some, length, slice_get}
use Rattle.lg_op.specs.Nodes.{InForm}
use Rattle.lg_op.specs.declared.node.Node.{Node}
use Rattle.lg_op.specs.declared.operand.Reg.{Reg}
use Rattle.lg_node.specs.Nodes.{LabelledNodes}
use Rattle.lg_node.specs.Shapes.{TextShape, IsShapeOf, IsSuccessor}
use Rattle.lg_live.specs.Uses.{is_read, is_written}
use Rattle.lg_live.specs.Definitions.{defines}
use Rattle.lg_meaning.specs.States.{State}
use Rattle.lg_meaning.specs.Texts.{step}
use Rattle.lg_dead.specs.Near.{Near, Meets}

-- what a node that stays reads is needed, and what is needed at a successor, but for what the node writes; what is dropped is a definition of registers that
-- are not needed after it
pub record AreNeeds (l : LabelledNodes) (shape : TextShape) (stays : ℕ → Bool) (needs : ℕ → Reg → Bool) : Type 0 where
  pub reads : (i : ℕ) (n : Node) (r : Reg) → slice_get l.nodes i ≡ Some n → stays i ≡ true → is_read n r ≡ true → needs i r ≡ true
  pub passes : (i k : ℕ) (n : Node) (r : Reg) → slice_get l.nodes i ≡ Some n → IsSuccessor l shape i k → needs k r ≡ true → is_written n r ≡ false
      → needs i r ≡ true
  pub inside : (k : ℕ) (r : Reg) → needs k r ≡ true → k < length l.nodes
  pub gone : (i : ℕ) (n : Node) → slice_get l.nodes i ≡ Some n → stays i ≡ false
      → (defines n.op ≡ true) × ((r : Reg) → is_written n r ≡ true → needs (i + 1) r ≡ false)

-- the same state, but for registers that are not needed at its node, and saved ones that are not needed at the returns
abbrev pub AreNear : (ℕ → Reg → Bool) → State → State → Type 0
AreNear needs s m = Near needs (needs s.at) s m

-- the step of a node that stays does the same from states that are so
abbrev pub NearStepsMeet : Type 0
NearStepsMeet =
    (l : LabelledNodes) (shape : TextShape) (stays : ℕ → Bool) (needs : ℕ → Reg → Bool) (A : List ℕ) (s m : State) (n : Node)
    → IsShapeOf l shape → AreNeeds l shape stays needs → slice_get l.nodes s.at ≡ Some n → InForm n → stays s.at ≡ true → AreNear needs s m
    → Meets (AreNear needs) (step l shape A s) (step l shape A m)
