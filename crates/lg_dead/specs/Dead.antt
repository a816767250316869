-- Dead definitions, and those that are of use.
use Rattle.std.specs.Prelude.{◌≡◌, ◌↔◌, ℕ, ◌+◌, not, Bool, true, false, ◌&&◌, ◌||◌, List, Option, Some, None, slice_get, slice_index_or}
use Rattle.lg_op.specs.declared.node.Node.{Node}
use Rattle.lg_op.specs.declared.operand.Reg.{Reg}
use Rattle.lg_node.specs.Nodes.{LabelledNodes}
use Rattle.lg_node.specs.Shapes.{TextShape, IsSuccessor}
use Rattle.lg_live.specs.RegSets.{has}
use Rattle.lg_live.specs.declared.reg_set.RegSet.{RegSet}
use Rattle.lg_live.specs.Uses.{is_written}
use Rattle.lg_live.specs.Graphs.{any_register}
use Rattle.lg_live.specs.Liveness.{IsLiveAfter}
use Rattle.lg_live.specs.Definitions.{defines}
use Rattle.lg_live.specs.Needs.{IsNeeded}
use Rattle.lg_opt.specs.Moves.{is_movr}

-- a node writes a register that is needed after it
pub record IsOfUse (l : LabelledNodes) (s : TextShape) (i : ℕ) (n : Node) : Type 0 where
  pub register : Reg
  pub next : ℕ
  pub written : is_written n register ≡ true
  pub successor : IsSuccessor l s i next
  pub needed : IsNeeded l s register next

-- each definition is of use
abbrev pub AllAreOfUse : LabelledNodes → TextShape → Type 0
AllAreOfUse l s = (i : ℕ) (n : Node) → slice_get l.nodes i ≡ Some n → defines n.op ≡ true → IsOfUse l s i n

-- a node writes a register that is live after it
pub record IsNotDead (l : LabelledNodes) (s : TextShape) (i : ℕ) (n : Node) : Type 0 where
  pub register : Reg
  pub written : is_written n register ≡ true
  pub live : IsLiveAfter l s register i

-- no node is a dead definition, or none but a `movr`
abbrev pub HasNoDead : LabelledNodes → TextShape → Type 0
HasNoDead l s = (i : ℕ) (n : Node) → slice_get l.nodes i ≡ Some n → defines n.op ≡ true → IsNotDead l s i n

abbrev pub HasNoDeadButMoves : LabelledNodes → TextShape → Type 0
HasNoDeadButMoves l s = (i : ℕ) (n : Node) → slice_get l.nodes i ≡ Some n → defines n.op ≡ true → is_movr n.op ≡ false → IsNotDead l s i n

-- ---- the nodes that stay
abbrev pub any_needed : (Reg → Bool) → Node → Bool
any_needed needs n = any_register (λ r. is_written n r && needs r)

abbrev pub stays_at : (Reg → Bool) → Option Node → Bool
stays_at needs None = true
stays_at needs (Some n) = not (defines n.op) || any_needed needs n

abbrev pub stays : (ℕ → Reg → Bool) → LabelledNodes → ℕ → Bool
stays needs l i = stays_at (needs (i + 1)) (slice_get l.nodes i)

-- a table has exactly the registers that are needed before each node
abbrev pub AreExact : LabelledNodes → TextShape → (ℕ → Reg → Bool) → Type 0
AreExact l s needs = (i : ℕ) (r : Reg) → (needs i r ≡ true) ↔ IsNeeded l s r i

-- what a table of sets has
abbrev pub needs_in : List RegSet → ℕ → Reg → Bool
needs_in sets i = has (slice_index_or sets i (record { 0 = 0 }))
