-- Which numbers registers are known to hold, and what nodes become by that.
use Rattle.std.specs.Prelude.{◌≡◌, ◌↔◌, ℕ, ◌<◌, ◌≤◌, zero, suc, Bool, true, false, ◌||◌, if◌then◌else◌, List, [], ◌∷◌, Option, Some, None, is_some, length, slice_get, slice_index_or}
use Rattle.std.specs.Option.{option_map, option_and_then}
use Rattle.std.specs.List.{All}
use Rattle.lg_op.specs.Nodes.{InForm}
use Rattle.lg_op.specs.declared.node.Node.{Node}
use Rattle.lg_op.specs.declared.op.Op.{Op}
use Rattle.lg_op.specs.declared.op.Op.TheVariants as op
use Rattle.lg_op.specs.declared.op.LastOperand.TheVariants as last_operand
use Rattle.lg_op.specs.declared.op.PlainOp.TheVariants as plain
use Rattle.lg_op.specs.declared.operand.Operand.{Operand}
use Rattle.lg_op.specs.declared.operand.Operand.TheVariants as operand
use Rattle.lg_op.specs.declared.operand.Reg.{Reg}
use Rattle.lg_live.specs.Registers.{is_same}
use Rattle.lg_live.specs.Uses.{is_written}
use Rattle.lg_op.specs.Operators.{sets_carry, binary_value, unary_value}
use Rattle.lg_carry.specs.Carries.{leaps}
use Rattle.lg_node.specs.Nodes.{LabelledNodes}
use Rattle.lg_node.specs.Labels.{is_labelled}
use Rattle.lg_opt.specs.Moves.{IsStraight}

-- the number that an operand is known to give; labels and host names are no numbers
abbrev pub number_in : (Reg → Option ℕ) → Operand → Option ℕ
number_in known (operand.Reg r) = known r
number_in known (operand.Number v) = Some v
number_in known x = None

-- the first way to fold: a node that makes one word of words that are known, where its step is not undefined
abbrev pub both_known : Option ℕ → Option ℕ → (ℕ → ℕ → Option ℕ) → Option ℕ
both_known a b f = option_and_then (λ x. option_and_then (f x) b) a

abbrev pub made : (Reg → Option ℕ) → Op → List Operand → Option ℕ
made known (op.Binary o last) (d ∷ a ∷ b ∷ []) = if sets_carry o then None else both_known (number_in known a) (number_in known b) (binary_value o)
made known (op.Unary o) (d ∷ a ∷ []) = option_map (unary_value o) (number_in known a)
made known o xs = None

-- the second way: the last operand is a register that is known
abbrev pub last_known : (Reg → Option ℕ) → Op → List Operand → Option ℕ
last_known known (op.Binary o last_operand.Register) (d ∷ a ∷ operand.Reg r ∷ []) = if sets_carry o then None else known r
last_known known (op.Branch c last_operand.Register) (t ∷ a ∷ operand.Reg r ∷ []) = known r
last_known known o xs = None

-- what a node becomes
abbrev pub as_movi : Node → ℕ → Node
as_movi n v = record n { op = op.Plain plain.Movi; operands = slice_index_or n.operands 0 (operand.Number 0) ∷ operand.Number v ∷ [] }

abbrev pub with_immediate : Op → Op
with_immediate (op.Binary o last) = op.Binary o last_operand.Immediate
with_immediate (op.Branch c last) = op.Branch c last_operand.Immediate
with_immediate o = o

abbrev pub with_third : List Operand → ℕ → List Operand
with_third (x ∷ y ∷ z ∷ []) v = x ∷ y ∷ operand.Number v ∷ []
with_third xs v = xs

abbrev pub as_immediate : Node → ℕ → Node
as_immediate n v = record n { op = with_immediate n.op; operands = with_third n.operands v }

abbrev pub folded_by : Node → Option ℕ → Option ℕ → Node
folded_by n (Some v) o = as_movi n v
folded_by n None (Some v) = as_immediate n v
folded_by n None None = n

abbrev pub folded : (Reg → Option ℕ) → Node → Node
folded known n = folded_by n (made known n.op n.operands) (last_known known n.op n.operands)

abbrev pub can_be_folded : (Reg → Option ℕ) → Node → Bool
can_be_folded known n = is_some (made known n.op n.operands) || is_some (last_known known n.op n.operands)

-- what is known after a node that goes on: the number of a `movi`, and what the node does not write
abbrev pub none_known : Reg → Option ℕ
none_known r = None

abbrev pub is_movi : Op → Bool
is_movi (op.Plain plain.Movi) = true
is_movi o = false

abbrev pub moved_number : Op → List Operand → Reg → Option ℕ
moved_number (op.Plain plain.Movi) (operand.Reg q ∷ operand.Number v ∷ []) r = if is_same q r then Some v else None
moved_number o xs r = None

abbrev pub or_else : Option ℕ → Option ℕ → Option ℕ
or_else (Some v) o = Some v
or_else None o = o

abbrev pub known_after : (Reg → Option ℕ) → Node → Reg → Option ℕ
known_after known n r = or_else (moved_number n.op n.operands r) (if is_written n r then None else known r)

abbrev pub known_at : (Reg → Option ℕ) → Option Node → Reg → Option ℕ
known_at known None = none_known
known_at known (Some n) = if leaps n.op then none_known else known_after known n

-- what is known before a node, in the straight run in which it stands
unfoldable pub known_before : LabelledNodes → ℕ → Reg → Option ℕ
known_before l zero = none_known
known_before l (suc i) = if is_labelled l.places (suc i) then none_known else known_at (known_before l i) (slice_get l.nodes i)

-- no node can be folded
abbrev pub HasNoFolds : LabelledNodes → Type 0
HasNoFolds l = (i : ℕ) (n : Node) → slice_get l.nodes i ≡ Some n → can_be_folded (known_before l i) n ≡ false

-- ---- in the words of a straight run
-- the last node before one in its straight run that writes a register is a `movi` of a number into it
pub record IsKnown (l : LabelledNodes) (k : ℕ) (r : Reg) (number : ℕ) : Type 0 where
  pub at : ℕ
  pub node : Node
  pub before : at < k
  pub here : slice_get l.nodes at ≡ Some node
  pub moves : node.op ≡ op.Plain plain.Movi
  pub operands : node.operands ≡ operand.Reg r ∷ operand.Number number ∷ []
  pub straight : IsStraight l at k
  pub kept : (j : ℕ) (n : Node) → at < j → j < k → slice_get l.nodes j ≡ Some n → is_written n r ≡ false

-- that is what is known
abbrev pub KnownIsMovedLast : Type 0
KnownIsMovedLast =
    (l : LabelledNodes) (k : ℕ) (r : Reg) (number : ℕ) → All InForm l.nodes → k ≤ length l.nodes → (known_before l k r ≡ Some number) ↔ IsKnown l k r number
