-- What the operations of the instruction set make of words.
use Rattle.std.specs.Prelude.{ℕ, ◌+◌, ◌-◌, ◌%◌, ◌^◌, ◌==◌, ◌&&◌, ◌||◌, not, Bool, true, false, if◌then◌else◌, Option, Some, None, bit_and, bit_or, bit_xor}
use Rattle.lg_base.specs.Words.{add_words, sub_words, mul_words, negated, complement, high_product, high_product_signed, quotient, remainder, quotient_signed, remainder_signed, shifted_left, shifted_right, shifted_right_signed, is_less, is_less_signed, word_of_test, carry_out, borrow_out, sum_overflows, difference_overflows}
use Rattle.lg_base.specs.Wide.{zero_part_of, sign_part_of, swapped}
use Rattle.lg_op.specs.declared.op.BinaryOp.{BinaryOp}
use Rattle.lg_op.specs.declared.op.BinaryOp.TheVariants as binary
use Rattle.lg_op.specs.declared.op.WideOp.{WideOp}
use Rattle.lg_op.specs.declared.op.WideOp.TheVariants as wide
use Rattle.lg_op.specs.declared.op.Condition.{Condition}
use Rattle.lg_op.specs.declared.op.Condition.TheVariants as condition
use Rattle.lg_op.specs.declared.op.BranchSumOp.{BranchSumOp}
use Rattle.lg_op.specs.declared.op.BranchSumOp.TheVariants as branch_sum
use Rattle.lg_op.specs.declared.op.UnaryOp.{UnaryOp}
use Rattle.lg_op.specs.declared.op.UnaryOp.TheVariants as unary
use Rattle.lg_op.specs.declared.op.ValueType.{ValueType}
use Rattle.lg_op.specs.declared.op.ValueType.TheVariants as value_type
use Rattle.lg_op.specs.declared.op.StoreType.{StoreType}
use Rattle.lg_op.specs.declared.op.StoreType.TheVariants as store_type
use Rattle.lg_op.specs.declared.carry.Carry.{Carry}
use Rattle.lg_op.specs.declared.carry.Carry.TheVariants as carry

-- a word, where something holds
abbrev pub word_where : Bool → ℕ → Option ℕ
word_where b n = if b then Some n else None

-- the least word, divided by -1
abbrev pub is_least_by_minus_one : ℕ → ℕ → Bool
is_least_by_minus_one a b = (a == 2 ^ 63) && (b == 2 ^ 64 - 1)

-- whether a signed quotient is a word
abbrev pub divides : ℕ → ℕ → Bool
divides a b = not ((b == 0) || is_least_by_minus_one a b)

-- the word of a quotient or of a remainder, or none where it is undefined
abbrev pub partial_value : BinaryOp → ℕ → ℕ → Option ℕ
partial_value binary.Div a b = word_where (divides a b) (quotient_signed a b)
partial_value binary.DivU a b = word_where (not (b == 0)) (quotient a b)
partial_value binary.Rem a b = word_where (divides a b) (remainder_signed a b)
partial_value binary.RemU a b = word_where (not (b == 0)) (remainder a b)
partial_value op a b = None

-- the word of two words, or none where it is undefined: a shift is by its count modulo 64; the operations that set the carry are below
abbrev pub binary_value : BinaryOp → ℕ → ℕ → Option ℕ
binary_value binary.Add a b = Some (add_words a b)
binary_value binary.Sub a b = Some (sub_words a b)
binary_value binary.Rsb a b = Some (sub_words b a)
binary_value binary.Mul a b = Some (mul_words a b)
binary_value binary.And a b = Some (bit_and a b)
binary_value binary.Or a b = Some (bit_or a b)
binary_value binary.Xor a b = Some (bit_xor a b)
binary_value binary.Lt a b = Some (word_of_test (is_less_signed a b))
binary_value binary.LtU a b = Some (word_of_test (is_less a b))
binary_value binary.Le a b = Some (word_of_test (not (is_less_signed b a)))
binary_value binary.LeU a b = Some (word_of_test (not (is_less b a)))
binary_value binary.Ge a b = Some (word_of_test (not (is_less_signed a b)))
binary_value binary.GeU a b = Some (word_of_test (not (is_less a b)))
binary_value binary.Gt a b = Some (word_of_test (is_less_signed b a))
binary_value binary.GtU a b = Some (word_of_test (is_less b a))
binary_value binary.Eq a b = Some (word_of_test (a == b))
binary_value binary.Ne a b = Some (word_of_test (not (a == b)))
binary_value binary.Lsh a b = Some (shifted_left a (b % 64))
binary_value binary.Rsh a b = Some (shifted_right_signed a (b % 64))
binary_value binary.RshU a b = Some (shifted_right a (b % 64))
binary_value op a b = partial_value op a b

-- the operations that set the carry
abbrev pub sets_carry : BinaryOp → Bool
sets_carry binary.Addc = true
sets_carry binary.Subc = true
sets_carry binary.Addx = true
sets_carry binary.Subx = true
sets_carry op = false

-- the carry that they take: none, or that of their own family
abbrev pub carry_in : BinaryOp → Carry → Option Bool
carry_in binary.Addx (carry.Sum bit) = Some bit
carry_in binary.Subx (carry.Difference bit) = Some bit
carry_in binary.Addc c = Some false
carry_in binary.Subc c = Some false
carry_in op c = None

abbrev pub is_sum : BinaryOp → Bool
is_sum binary.Addc = true
is_sum binary.Addx = true
is_sum op = false

-- O2 + O3 + carry, or O2 - (O3 + carry)
abbrev pub value_with_carry : BinaryOp → ℕ → ℕ → ℕ → ℕ
value_with_carry op a b c = if is_sum op then (a + b + c) % 2 ^ 64 else (a + (2 ^ 65 - (b + c))) % 2 ^ 64

-- the carry out, or the borrow of the whole
abbrev pub carry_made : BinaryOp → ℕ → ℕ → ℕ → Carry
carry_made op a b c = if is_sum op then carry.Sum (carry_out a b c) else carry.Difference (borrow_out a b c)

-- whether a branch goes
abbrev pub holds : Condition → ℕ → ℕ → Bool
holds condition.Lt a b = is_less_signed a b
holds condition.LtU a b = is_less a b
holds condition.Le a b = not (is_less_signed b a)
holds condition.LeU a b = not (is_less b a)
holds condition.Ge a b = not (is_less_signed a b)
holds condition.GeU a b = not (is_less a b)
holds condition.Gt a b = is_less_signed b a
holds condition.GtU a b = is_less b a
holds condition.Eq a b = a == b
holds condition.Ne a b = not (a == b)
holds condition.Ms a b = not (bit_and a b == 0)
holds condition.Mc a b = bit_and a b == 0

-- the wrapped sum or difference of a branch that adds or subtracts
abbrev pub branch_sum_value : BranchSumOp → ℕ → ℕ → ℕ
branch_sum_value branch_sum.OverflowAdd a b = add_words a b
branch_sum_value branch_sum.OverflowAddU a b = add_words a b
branch_sum_value branch_sum.OverflowSub a b = sub_words a b
branch_sum_value branch_sum.OverflowSubU a b = sub_words a b
branch_sum_value branch_sum.FitAdd a b = add_words a b
branch_sum_value branch_sum.FitAddU a b = add_words a b
branch_sum_value branch_sum.FitSub a b = sub_words a b
branch_sum_value branch_sum.FitSubU a b = sub_words a b

-- whether it goes: where the exact result does not fit, or where it does
abbrev pub branch_sum_goes : BranchSumOp → ℕ → ℕ → Bool
branch_sum_goes branch_sum.OverflowAdd a b = sum_overflows a b
branch_sum_goes branch_sum.OverflowAddU a b = carry_out a b 0
branch_sum_goes branch_sum.OverflowSub a b = difference_overflows a b
branch_sum_goes branch_sum.OverflowSubU a b = borrow_out a b 0
branch_sum_goes branch_sum.FitAdd a b = not (sum_overflows a b)
branch_sum_goes branch_sum.FitAddU a b = not (carry_out a b 0)
branch_sum_goes branch_sum.FitSub a b = not (difference_overflows a b)
branch_sum_goes branch_sum.FitSubU a b = not (borrow_out a b 0)

-- the two words of O1 and O2
abbrev pub pair_where : Bool → ℕ → ℕ → Option (ℕ × ℕ)
pair_where b m n = if b then Some (m, n) else None

abbrev pub wide_value : WideOp → ℕ → ℕ → Option (ℕ × ℕ)
wide_value wide.Mul a b = Some (mul_words a b, high_product_signed a b)
wide_value wide.MulU a b = Some (mul_words a b, high_product a b)
wide_value wide.Div a b = pair_where (divides a b) (quotient_signed a b) (remainder_signed a b)
wide_value wide.DivU a b = pair_where (not (b == 0)) (quotient a b) (remainder a b)

abbrev pub unary_value : UnaryOp → ℕ → ℕ
unary_value unary.Neg a = negated a
unary_value unary.Com a = complement a
unary_value unary.Mov a = a
unary_value unary.ExtrC a = sign_part_of a 1
unary_value unary.ExtrUc a = zero_part_of a 1
unary_value unary.ExtrS a = sign_part_of a 2
unary_value unary.ExtrUs a = zero_part_of a 2
unary_value unary.ExtrI a = sign_part_of a 4
unary_value unary.ExtrUi a = zero_part_of a 4
unary_value unary.HtonrUs a = swapped a 2
unary_value unary.HtonrUi a = swapped a 4
unary_value unary.HtonrUl a = swapped a 8

-- `movr` alone keeps the carry
abbrev pub keeps_carry : UnaryOp → Bool
keeps_carry unary.Mov = true
keeps_carry op = false

-- how many bytes a type reads
abbrev pub width : ValueType → ℕ
width value_type.Char = 1
width value_type.UnsignedChar = 1
width value_type.Short = 2
width value_type.UnsignedShort = 2
width value_type.Int = 4
width value_type.UnsignedInt = 4
width value_type.Long = 8

-- how it extends them
abbrev pub extended_by_type : ValueType → ℕ → ℕ
extended_by_type value_type.Char a = sign_part_of a 1
extended_by_type value_type.UnsignedChar a = zero_part_of a 1
extended_by_type value_type.Short a = sign_part_of a 2
extended_by_type value_type.UnsignedShort a = zero_part_of a 2
extended_by_type value_type.Int a = sign_part_of a 4
extended_by_type value_type.UnsignedInt a = zero_part_of a 4
extended_by_type value_type.Long a = a

-- how many bytes a type writes
abbrev pub store_width : StoreType → ℕ
store_width store_type.Char = 1
store_width store_type.Short = 2
store_width store_type.Int = 4
store_width store_type.Long = 8
