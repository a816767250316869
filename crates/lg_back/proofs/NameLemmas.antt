-- No name of an operation has a line feed.
use Rattle.std.proofs.Common.{◌≡◌, true, ◌++◌, refl}
use Rattle.lg_op.specs.declared.op.BinaryOp.{BinaryOp}
use Rattle.lg_op.specs.declared.op.BinaryOp.TheVariants as binary
use Rattle.lg_op.specs.declared.op.WideOp.{WideOp}
use Rattle.lg_op.specs.declared.op.WideOp.TheVariants as wide
use Rattle.lg_op.specs.declared.op.Condition.{Condition}
use Rattle.lg_op.specs.declared.op.Condition.TheVariants as condition
use Rattle.lg_op.specs.declared.op.BranchSumOp.{BranchSumOp}
use Rattle.lg_op.specs.declared.op.BranchSumOp.TheVariants as branch_sum
use Rattle.lg_op.specs.declared.op.ControlOp.{ControlOp}
use Rattle.lg_op.specs.declared.op.ControlOp.TheVariants as control
use Rattle.lg_op.specs.declared.op.UnaryOp.{UnaryOp}
use Rattle.lg_op.specs.declared.op.UnaryOp.TheVariants as unary
use Rattle.lg_op.specs.declared.op.PlainOp.{PlainOp}
use Rattle.lg_op.specs.declared.op.PlainOp.TheVariants as plain
use Rattle.lg_op.specs.declared.op.ValueType.{ValueType}
use Rattle.lg_op.specs.declared.op.ValueType.TheVariants as value_type
use Rattle.lg_op.specs.declared.op.StoreType.{StoreType}
use Rattle.lg_op.specs.declared.op.StoreType.TheVariants as store_type
use Rattle.lg_op.specs.declared.op.Addressing.{Addressing}
use Rattle.lg_op.specs.declared.op.Addressing.TheVariants as addressing
use Rattle.lg_op.specs.declared.op.LastOperand.{LastOperand}
use Rattle.lg_op.specs.declared.op.LastOperand.TheVariants as last_operand
use Rattle.lg_op.specs.declared.op.Op.{Op}
use Rattle.lg_op.specs.declared.op.Op.TheVariants.{Binary, Wide, Branch, BranchSum, Control, Unary, Plain, Load, Store, Retval, Getarg}
use Rattle.lg_op.specs.Names.{name, stem_of, middle_of, end_of, binary_stem, wide_stem, condition_stem, branch_sum_stem, control_stem, unary_name, plain_name, last_middle, addressing_middle, binary_end, wide_end, condition_end, branch_sum_end, value_type_end, store_type_end}
use Rattle.lg_back.specs.Words.{is_free}
use Rattle.lg_back.proofs.WordLemmas.{free-append}

binary_stem_free : (x : BinaryOp) → is_free 10 (binary_stem x) ≡ true
binary_stem_free binary.Add = refl
binary_stem_free _ = refl

wide_stem_free : (x : WideOp) → is_free 10 (wide_stem x) ≡ true
wide_stem_free wide.Mul = refl
wide_stem_free _ = refl

condition_stem_free : (x : Condition) → is_free 10 (condition_stem x) ≡ true
condition_stem_free condition.Lt = refl
condition_stem_free _ = refl

branch_sum_stem_free : (x : BranchSumOp) → is_free 10 (branch_sum_stem x) ≡ true
branch_sum_stem_free branch_sum.OverflowAdd = refl
branch_sum_stem_free _ = refl

control_stem_free : (x : ControlOp) → is_free 10 (control_stem x) ≡ true
control_stem_free control.Jmp = refl
control_stem_free _ = refl

unary_name_free : (x : UnaryOp) → is_free 10 (unary_name x) ≡ true
unary_name_free unary.Neg = refl
unary_name_free _ = refl

plain_name_free : (x : PlainOp) → is_free 10 (plain_name x) ≡ true
plain_name_free plain.Movi = refl
plain_name_free _ = refl

last_middle_free : (x : LastOperand) → is_free 10 (last_middle x) ≡ true
last_middle_free last_operand.Register = refl
last_middle_free last_operand.Immediate = refl

addressing_middle_free : (x : Addressing) → is_free 10 (addressing_middle x) ≡ true
addressing_middle_free addressing.Register = refl
addressing_middle_free _ = refl

binary_end_free : (x : BinaryOp) → is_free 10 (binary_end x) ≡ true
binary_end_free binary.Add = refl
binary_end_free _ = refl

wide_end_free : (x : WideOp) → is_free 10 (wide_end x) ≡ true
wide_end_free wide.Mul = refl
wide_end_free _ = refl

condition_end_free : (x : Condition) → is_free 10 (condition_end x) ≡ true
condition_end_free condition.Lt = refl
condition_end_free _ = refl

branch_sum_end_free : (x : BranchSumOp) → is_free 10 (branch_sum_end x) ≡ true
branch_sum_end_free branch_sum.OverflowAdd = refl
branch_sum_end_free _ = refl

value_type_end_free : (x : ValueType) → is_free 10 (value_type_end x) ≡ true
value_type_end_free value_type.Char = refl
value_type_end_free _ = refl

store_type_end_free : (x : StoreType) → is_free 10 (store_type_end x) ≡ true
store_type_end_free store_type.Char = refl
store_type_end_free _ = refl

stem_free : (op : Op) → is_free 10 (stem_of op) ≡ true
stem_free (Binary op last) = binary_stem_free op
stem_free (Wide op last) = wide_stem_free op
stem_free (Branch op last) = condition_stem_free op
stem_free (BranchSum op last) = branch_sum_stem_free op
stem_free (Control op last) = control_stem_free op
stem_free (Unary op) = unary_name_free op
stem_free (Plain op) = plain_name_free op
stem_free _ = refl

middle_free : (op : Op) → is_free 10 (middle_of op) ≡ true
middle_free (Binary op last) = last_middle_free last
middle_free (Wide op last) = last_middle_free last
middle_free (Branch op last) = last_middle_free last
middle_free (BranchSum op last) = last_middle_free last
middle_free (Control op last) = last_middle_free last
middle_free (Load t at) = addressing_middle_free at
middle_free (Store t at) = addressing_middle_free at
middle_free _ = refl

end_free : (op : Op) → is_free 10 (end_of op) ≡ true
end_free (Binary op last) = binary_end_free op
end_free (Wide op last) = wide_end_free op
end_free (Branch op last) = condition_end_free op
end_free (BranchSum op last) = branch_sum_end_free op
end_free (Load t at) = value_type_end_free t
end_free (Store t at) = store_type_end_free t
end_free (Retval t) = value_type_end_free t
end_free (Getarg t) = value_type_end_free t
end_free _ = refl

pub name_free : (op : Op) → is_free 10 (name op) ≡ true
name_free op = free-append 10 (stem_of op ++ middle_of op) (end_of op) (free-append 10 (stem_of op) (middle_of op) (stem_free op) (middle_free op)) (end_free op)
