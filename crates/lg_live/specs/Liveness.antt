-- When a register is live.
use Rattle.std.specs.Prelude.{◌≡◌, ◌↔◌, ℕ, true, false, List, Some, length, slice_get}
use Rattle.lg_op.specs.declared.node.Node.{Node}
use Rattle.lg_op.specs.declared.operand.Reg.{Reg}
use Rattle.lg_node.specs.Nodes.{LabelledNodes}
use Rattle.lg_node.specs.Shapes.{TextShape, IsSuccessor}
use Rattle.lg_live.specs.RegSets.{has}
use Rattle.lg_live.specs.Uses.{is_read, is_written}
use Rattle.lg_live.specs.declared.reg_set.RegSet.{RegSet}

-- a register is live before a node where some walk along the successors reaches a node that reads it, and none before that one writes it
pub data IsLive (l : LabelledNodes) (s : TextShape) (r : Reg) : ℕ → Type 0 where
  read_here : (i : ℕ) (n : Node) → slice_get l.nodes i ≡ Some n → is_read n r ≡ true → IsLive l s r i
  kept_to : (i k : ℕ) (n : Node) → slice_get l.nodes i ≡ Some n → is_written n r ≡ false → IsSuccessor l s i k → IsLive l s r k → IsLive l s r i

-- it is live after a node where it is live before some successor
pub record IsLiveAfter (l : LabelledNodes) (s : TextShape) (r : Reg) (i : ℕ) : Type 0 where
  pub next : ℕ
  pub successor : IsSuccessor l s i next
  pub live : IsLive l s r next

-- sets of registers before and after each node
pub record LiveSets : Type 0 where
  pub before : List RegSet
  pub behind : List RegSet

-- they are those of the registers that are live
pub record AreLive (l : LabelledNodes) (s : TextShape) (sets : LiveSets) : Type 0 where
  pub before_count : length sets.before ≡ length l.nodes
  pub after_count : length sets.behind ≡ length l.nodes
  pub before : (i : ℕ) (set : RegSet) → slice_get sets.before i ≡ Some set → (r : Reg) → (has set r ≡ true) ↔ IsLive l s r i
  pub behind : (i : ℕ) (set : RegSet) → slice_get sets.behind i ≡ Some set → (r : Reg) → (has set r ≡ true) ↔ IsLiveAfter l s r i
