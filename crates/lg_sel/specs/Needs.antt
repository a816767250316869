-- The nodes whose code is to ask for no temporary, on every target.
use Rattle.std.specs.Prelude.{ℕ, ◌+◌, ◌%◌, ◌^◌, nat_lt, Bool, true, false, ◌&&◌, ◌||◌, List, [], ◌∷◌}
use Rattle.lg_op.specs.declared.op.Op.{Op}
use Rattle.lg_op.specs.declared.op.Op.TheVariants as op
use Rattle.lg_op.specs.declared.op.BinaryOp.{BinaryOp}
use Rattle.lg_op.specs.declared.op.BinaryOp.TheVariants as binary
use Rattle.lg_op.specs.declared.op.UnaryOp.{UnaryOp}
use Rattle.lg_op.specs.declared.op.UnaryOp.TheVariants as unary
use Rattle.lg_op.specs.declared.op.Condition.{Condition}
use Rattle.lg_op.specs.declared.op.Condition.TheVariants as condition
use Rattle.lg_op.specs.declared.op.ControlOp.{ControlOp}
use Rattle.lg_op.specs.declared.op.ControlOp.TheVariants as control
use Rattle.lg_op.specs.declared.op.PlainOp.{PlainOp}
use Rattle.lg_op.specs.declared.op.PlainOp.TheVariants as plain
use Rattle.lg_op.specs.declared.op.LastOperand.{LastOperand}
use Rattle.lg_op.specs.declared.op.LastOperand.TheVariants as last_operand
use Rattle.lg_op.specs.declared.operand.Operand.{Operand}
use Rattle.lg_op.specs.declared.operand.Operand.TheVariants as operand

abbrev pub is_shift : BinaryOp → Bool
is_shift binary.Lsh = true
is_shift binary.Rsh = true
is_shift binary.RshU = true
is_shift o = false

-- sums and differences without a carry
abbrev pub is_sum : BinaryOp → Bool
is_sum binary.Add = true
is_sum binary.Sub = true
is_sum binary.Rsb = true
is_sum o = false

-- the bits of two words, and their product
abbrev pub is_bitwise_or_product : BinaryOp → Bool
is_bitwise_or_product binary.And = true
is_bitwise_or_product binary.Or = true
is_bitwise_or_product binary.Xor = true
is_bitwise_or_product binary.Mul = true
is_bitwise_or_product o = false

abbrev pub is_comparison : BinaryOp → Bool
is_comparison binary.Lt = true
is_comparison binary.LtU = true
is_comparison binary.Le = true
is_comparison binary.LeU = true
is_comparison binary.Ge = true
is_comparison binary.GeU = true
is_comparison binary.Gt = true
is_comparison binary.GtU = true
is_comparison binary.Eq = true
is_comparison binary.Ne = true
is_comparison o = false

-- a number whose signed view is from -2,047 to 2,047
abbrev pub is_near : ℕ → Bool
is_near v = nat_lt ((v + 2047) % 2 ^ 64) 4095

abbrev pub ends_near : List Operand → Bool
ends_near (d ∷ a ∷ operand.Number v ∷ []) = is_near v
ends_near xs = false

abbrev pub binary_takes_none : BinaryOp → LastOperand → List Operand → Bool
binary_takes_none o last_operand.Register xs = (is_sum o || is_bitwise_or_product o) || (is_shift o || is_comparison o)
binary_takes_none o last_operand.Immediate xs = is_shift o || (is_sum o && ends_near xs)

-- copies, signs, and parts of a word
abbrev pub unary_takes_none : UnaryOp → Bool
unary_takes_none unary.HtonrUs = false
unary_takes_none unary.HtonrUi = false
unary_takes_none unary.HtonrUl = false
unary_takes_none o = true

-- branches that compare
abbrev pub branch_takes_none : Condition → LastOperand → Bool
branch_takes_none condition.Ms last = false
branch_takes_none condition.Mc last = false
branch_takes_none o last_operand.Register = true
branch_takes_none o last_operand.Immediate = false

abbrev pub control_takes_none : ControlOp → LastOperand → Bool
control_takes_none control.Jmp last = true
control_takes_none control.Call last = true
control_takes_none control.Finish last_operand.Immediate = true
control_takes_none control.Pusharg last_operand.Register = true
control_takes_none control.Ret last = true
control_takes_none o last = false

abbrev pub plain_takes_none : PlainOp → Bool
plain_takes_none plain.Prolog = false
plain_takes_none o = true

abbrev pub takes_none : Op → List Operand → Bool
takes_none (op.Binary o last) xs = binary_takes_none o last xs
takes_none (op.Unary o) xs = unary_takes_none o
takes_none (op.Branch o last) xs = branch_takes_none o last
takes_none (op.Control o last) xs = control_takes_none o last
takes_none (op.Plain o) xs = plain_takes_none o
takes_none (op.Retval t) xs = true
takes_none (op.Getarg t) xs = true
takes_none o xs = false
