-- Moves that do nothing.
use Rattle.std.specs.Prelude.{◌≡◌, ◌≢◌, ◌⊎◌, ℕ, zero, suc, ◌==◌, ◌<◌, ◌≤◌, Bool, true, false, not, ◌||◌, if◌then◌else◌, List, [], ◌∷◌, Option, Some, None, slice_get}
use Rattle.lg_op.specs.declared.op.Op.{Op}
use Rattle.lg_op.specs.declared.op.Op.TheVariants as op
use Rattle.lg_op.specs.declared.op.UnaryOp.TheVariants as unary
use Rattle.lg_op.specs.declared.operand.Operand.{Operand}
use Rattle.lg_op.specs.declared.operand.Operand.TheVariants as operand
use Rattle.lg_op.specs.declared.operand.Reg.{Reg}
use Rattle.lg_op.specs.declared.node.Node.{Node}
use Rattle.lg_carry.specs.Carries.{leaps}
use Rattle.lg_op.specs.Operands.{number_of}
use Rattle.lg_live.specs.Uses.{is_written}
use Rattle.lg_node.specs.Nodes.{LabelledNodes}
use Rattle.lg_node.specs.Labels.{is_labelled}

-- both are one register, FP too
abbrev pub is_equal : Reg → Reg → Bool
is_equal q r = number_of q == number_of r

-- the registers of a `movr`, the one that is written first
pub record Move : Type 0 where
  pub into : Reg
  pub from : Reg

abbrev pub is_movr : Op → Bool
is_movr (op.Unary unary.Mov) = true
is_movr o = false

abbrev pub move_of : Op → List Operand → Option Move
move_of (op.Unary unary.Mov) (operand.Reg a ∷ operand.Reg b ∷ []) = Some record { into = a; from = b }
move_of o xs = None

-- of each register that a `movr` of the straight run wrote last the register that was moved, where that was not written since
abbrev pub no_sources : Reg → Option Reg
no_sources r = None

abbrev pub unless_written : Node → Option Reg → Option Reg
unless_written n None = None
unless_written n (Some b) = if is_written n b then None else Some b

abbrev pub after_other : (Reg → Option Reg) → Node → Reg → Option Reg
after_other sources n r = if is_written n r then None else unless_written n (sources r)

abbrev pub after_move : (Reg → Option Reg) → Node → Move → Reg → Option Reg
after_move sources n m r = if is_equal m.into r then Some m.from else after_other sources n r

abbrev pub is_source : Option Reg → Reg → Bool
is_source None r = false
is_source (Some q) r = is_equal q r

-- a move does nothing: of a register to itself, or to or from the register that it was moved to or from
abbrev pub is_idle : (Reg → Option Reg) → Option Move → Bool
is_idle sources None = false
is_idle sources (Some m) = is_equal m.into m.from || (is_source (sources m.into) m.from || is_source (sources m.from) m.into)

abbrev pub after_node : (Reg → Option Reg) → Node → Option Move → Reg → Option Reg
after_node sources n None = after_other sources n
after_node sources n (Some m) = if is_idle sources (Some m) then sources else after_move sources n m

abbrev pub after_at : (Reg → Option Reg) → Option Node → Reg → Option Reg
after_at sources None = no_sources
after_at sources (Some n) = if leaps n.op then no_sources else after_node sources n (move_of n.op n.operands)

-- the sources before a node
unfoldable pub sources_before : LabelledNodes → ℕ → Reg → Option Reg
sources_before l zero = no_sources
sources_before l (suc i) = if is_labelled l.places (suc i) then no_sources else after_at (sources_before l i) (slice_get l.nodes i)

abbrev pub move_at : Option Node → Option Move
move_at None = None
move_at (Some n) = move_of n.op n.operands

-- a node is a move that does nothing
abbrev pub is_idle_at : LabelledNodes → ℕ → Bool
is_idle_at l i = is_idle (sources_before l i) (move_at (slice_get l.nodes i))

abbrev pub stays : LabelledNodes → ℕ → Bool
stays l i = not (is_idle_at l i)

-- ---- what is promised of the nodes that stay
-- nodes i to k are neighbours of one straight run
pub record IsStraight (l : LabelledNodes) (i k : ℕ) : Type 0 where
  pub order : i ≤ k
  pub falls : (j : ℕ) (n : Node) → i ≤ j → j < k → slice_get l.nodes j ≡ Some n → leaps n.op ≡ false
  pub unlabelled : (j : ℕ) → i < j → j ≤ k → is_labelled l.places j ≡ false

-- one of the two moves between these registers
abbrev pub IsBetween : Move → Reg → Reg → Type 0
IsBetween m a b = ((m.into ≡ a) × (m.from ≡ b)) ⊎ ((m.into ≡ b) × (m.from ≡ a))

-- a `movr` of the same straight run has moved the one register into the other before, and neither was written since
pub record IsMovedBefore (l : LabelledNodes) (k : ℕ) (a b : Reg) : Type 0 where
  pub at : ℕ
  pub node : Node
  pub move : Move
  pub before : at < k
  pub here : slice_get l.nodes at ≡ Some node
  pub moves : move_of node.op node.operands ≡ Some move
  pub between : IsBetween move a b
  pub straight : IsStraight l at k
  pub kept : (j : ℕ) (n : Node) → at < j → j < k → slice_get l.nodes j ≡ Some n → (is_written n a ≡ false) × (is_written n b ≡ false)

-- no move moves a register to itself, or does what a move before has done
abbrev pub HasNoIdleMoves : LabelledNodes → Type 0
HasNoIdleMoves l = (k : ℕ) (n : Node) (m : Move) → slice_get l.nodes k ≡ Some n → move_of n.op n.operands ≡ Some m
    → (m.into ≢ m.from) × (IsMovedBefore l k m.into m.from → ⊥)
