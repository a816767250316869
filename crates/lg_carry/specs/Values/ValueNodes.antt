-- The nodes that compute values, by their operands.
use Rattle.std.specs.Prelude.{◌≡◌, ℕ, Bool, true, false, [], ◌∷◌}
use Rattle.lg_op.specs.declared.op.BinaryOp.{BinaryOp}
use Rattle.lg_op.specs.declared.op.WideOp.{WideOp}
use Rattle.lg_op.specs.declared.op.UnaryOp.{UnaryOp}
use Rattle.lg_op.specs.declared.op.UnaryOp.TheVariants as unary
use Rattle.lg_op.specs.declared.op.ValueType.{ValueType}
use Rattle.lg_op.specs.declared.op.ValueType.TheVariants as value
use Rattle.lg_op.specs.declared.op.PlainOp.TheVariants as plain
use Rattle.lg_op.specs.declared.op.LastOperand.{LastOperand}
use Rattle.lg_op.specs.declared.op.Op.{Op}
use Rattle.lg_op.specs.declared.op.Op.TheVariants as op
use Rattle.lg_op.specs.declared.node.Node.{Node}
use Rattle.lg_op.specs.declared.operand.Reg.{Reg}
use Rattle.lg_op.specs.declared.operand.Operand.{Operand}
use Rattle.lg_op.specs.declared.operand.Operand.TheVariants as operand
use Rattle.lg_op.specs.Operators.{extended_by_type, unary_value}

-- the operations whose nodes compute values
abbrev pub is_value : Op → Bool
is_value (op.Binary o last) = true
is_value (op.Wide o last) = true
is_value (op.Unary o) = true
is_value (op.Plain plain.Movi) = true
is_value (op.Plain plain.VaStart) = true
is_value (op.Retval t) = true
is_value o = false

-- d = a op x
abbrev pub binary_node : BinaryOp → LastOperand → Reg → Reg → Operand → ℕ → Node
binary_node o last d a x line = record { op = op.Binary o last; operands = operand.Reg d ∷ operand.Reg a ∷ x ∷ []; line = line }

-- d and e = a op x
abbrev pub wide_node : WideOp → LastOperand → Reg → Reg → Reg → Operand → ℕ → Node
wide_node o last d e a x line = record { op = op.Wide o last; operands = operand.Reg d ∷ operand.Reg e ∷ operand.Reg a ∷ x ∷ []; line = line }

-- d = op a
abbrev pub unary_node : UnaryOp → Reg → Reg → ℕ → Node
unary_node o d a line = record { op = op.Unary o; operands = operand.Reg d ∷ operand.Reg a ∷ []; line = line }

-- d = x
abbrev pub movi_node : Reg → Operand → ℕ → Node
movi_node d x line = record { op = op.Plain plain.Movi; operands = operand.Reg d ∷ x ∷ []; line = line }

-- d = the list of the variable arguments from number k on
abbrev pub va_start_node : Reg → ℕ → ℕ → Node
va_start_node d k line = record { op = op.Plain plain.VaStart; operands = operand.Reg d ∷ operand.Number k ∷ []; line = line }

-- d = the result of a call, by its type
abbrev pub retval_node : ValueType → Reg → ℕ → Node
retval_node t d line = record { op = op.Retval t; operands = operand.Reg d ∷ []; line = line }

-- the operation that extends a word as a type does
abbrev pub extension : ValueType → UnaryOp
extension value.Char = unary.ExtrC
extension value.UnsignedChar = unary.ExtrUc
extension value.Short = unary.ExtrS
extension value.UnsignedShort = unary.ExtrUs
extension value.Int = unary.ExtrI
extension value.UnsignedInt = unary.ExtrUi
extension value.Long = unary.Mov

-- it does
abbrev pub TypesExtend : Type 0
TypesExtend = (t : ValueType) (x : ℕ) → unary_value (extension t) x ≡ extended_by_type t x
