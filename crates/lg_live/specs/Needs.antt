-- When a register is needed: its word can reach a node that is no definition.
use Rattle.std.specs.Prelude.{◌≡◌, ◌↔◌, ℕ, Bool, true, false, List, Some, length, slice_get}
use Rattle.lg_op.specs.declared.node.Node.{Node}
use Rattle.lg_op.specs.declared.op.Op.{Op}
use Rattle.lg_op.specs.declared.operand.Reg.{Reg}
use Rattle.lg_node.specs.Nodes.{LabelledNodes}
use Rattle.lg_node.specs.Shapes.{TextShape, IsSuccessor}
use Rattle.lg_live.specs.RegSets.{has}
use Rattle.lg_live.specs.Uses.{is_read, is_written}
use Rattle.lg_live.specs.declared.reg_set.RegSet.{RegSet}
use Rattle.lg_live.specs.Definitions.{defines}

-- a register is needed before a node that reads it at once; before one that reads it and writes a register that is needed before a successor; and where
-- it is needed before a successor and the node does not write it. The operations of `feeding` read nothing at once
pub data IsNeededBy (feeding : Op → Bool) (l : LabelledNodes) (s : TextShape) : Reg → ℕ → Type 0 where
  read_here : (r : Reg) (i : ℕ) (n : Node) → slice_get l.nodes i ≡ Some n → is_read n r ≡ true → feeding n.op ≡ false → IsNeededBy feeding l s r i
  read_for : (r q : Reg) (i k : ℕ) (n : Node) → slice_get l.nodes i ≡ Some n → is_read n r ≡ true → is_written n q ≡ true → IsSuccessor l s i k
      → IsNeededBy feeding l s q k → IsNeededBy feeding l s r i
  kept_to : (r : Reg) (i k : ℕ) (n : Node) → slice_get l.nodes i ≡ Some n → is_written n r ≡ false → IsSuccessor l s i k
      → IsNeededBy feeding l s r k → IsNeededBy feeding l s r i

-- a register is needed where its word can reach a node that is no definition
abbrev pub IsNeeded : LabelledNodes → TextShape → Reg → ℕ → Type 0
IsNeeded l s r i = IsNeededBy defines l s r i

-- it is needed after a node where it is needed before some successor
pub record IsNeededAfter (feeding : Op → Bool) (l : LabelledNodes) (s : TextShape) (r : Reg) (i : ℕ) : Type 0 where
  pub next : ℕ
  pub successor : IsSuccessor l s i next
  pub needed : IsNeededBy feeding l s r next

-- sets of registers, one before each node, are those of the registers that are needed
pub record AreNeeded (l : LabelledNodes) (s : TextShape) (sets : List RegSet) : Type 0 where
  pub count : length sets ≡ length l.nodes
  pub exact : (i : ℕ) (set : RegSet) → slice_get sets i ≡ Some set → (r : Reg) → (has set r ≡ true) ↔ IsNeeded l s r i
