-- The names of the operations: the letters of what is done, the letters of the operands, and the mark of an unsigned operation or of a type.
use Rattle.std.specs.Prelude.{◌≡◌, ℕ, ◌==◌, Bool, true, false, ◌&&◌, ◌||◌, if◌then◌else◌, List, [], ◌∷◌, ◌++◌, ◌⊎◌, Option, Some, None, map, codes}
use Rattle.std.specs.Str.{bytes_eq}
use Rattle.lg_op.specs.declared.op.BinaryOp.{BinaryOp}
use Rattle.lg_op.specs.declared.op.BinaryOp.TheVariants as binary
use Rattle.lg_op.specs.declared.op.WideOp.{WideOp}
use Rattle.lg_op.specs.declared.op.WideOp.TheVariants as wide
use Rattle.lg_op.specs.declared.op.Condition.{Condition}
use Rattle.lg_op.specs.declared.op.Condition.TheVariants as condition
use Rattle.lg_op.specs.declared.op.BranchSumOp.{BranchSumOp}
use Rattle.lg_op.specs.declared.op.BranchSumOp.TheVariants as branch_sum
use Rattle.lg_op.specs.declared.op.ControlOp.{ControlOp}
use Rattle.lg_op.specs.declared.op.ControlOp.TheVariants as control
use Rattle.lg_op.specs.declared.op.UnaryOp.{UnaryOp}
use Rattle.lg_op.specs.declared.op.UnaryOp.TheVariants as unary
use Rattle.lg_op.specs.declared.op.PlainOp.{PlainOp}
use Rattle.lg_op.specs.declared.op.PlainOp.TheVariants as plain
use Rattle.lg_op.specs.declared.op.ValueType.{ValueType}
use Rattle.lg_op.specs.declared.op.ValueType.TheVariants as value_type
use Rattle.lg_op.specs.declared.op.StoreType.{StoreType}
use Rattle.lg_op.specs.declared.op.StoreType.TheVariants as store_type
use Rattle.lg_op.specs.declared.op.Addressing.{Addressing}
use Rattle.lg_op.specs.declared.op.Addressing.TheVariants as addressing
use Rattle.lg_op.specs.declared.op.LastOperand.{LastOperand}
use Rattle.lg_op.specs.declared.op.LastOperand.TheVariants as last_operand
use Rattle.lg_op.specs.declared.op.Op.{Op}
use Rattle.lg_op.specs.declared.op.Op.TheVariants.{Binary, Wide, Branch, BranchSum, Control, Unary, Plain, Load, Store, Retval, Getarg}
use Rattle.lg_op.specs.declared.name_table.TheConstants.{NAMES_DOT, NAMES_A, NAMES_B, NAMES_C, NAMES_D, NAMES_E, NAMES_F, NAMES_G, NAMES_H, NAMES_J, NAMES_L, NAMES_M, NAMES_N, NAMES_O, NAMES_P, NAMES_Q, NAMES_R, NAMES_S, NAMES_V, NAMES_X}

-- of two operands, one result
abbrev pub binary_stem : BinaryOp → List ℕ
binary_stem binary.Add = codes "add"
binary_stem binary.Sub = codes "sub"
binary_stem binary.Rsb = codes "rsb"
binary_stem binary.Mul = codes "mul"
binary_stem binary.And = codes "and"
binary_stem binary.Or = codes "or"
binary_stem binary.Xor = codes "xor"
binary_stem binary.Lsh = codes "lsh"
binary_stem binary.Rsh = codes "rsh"
binary_stem binary.RshU = codes "rsh"
binary_stem binary.Div = codes "div"
binary_stem binary.DivU = codes "div"
binary_stem binary.Rem = codes "rem"
binary_stem binary.RemU = codes "rem"
binary_stem binary.Addc = codes "addc"
binary_stem binary.Subc = codes "subc"
binary_stem binary.Addx = codes "addx"
binary_stem binary.Subx = codes "subx"
binary_stem binary.Lt = codes "lt"
binary_stem binary.LtU = codes "lt"
binary_stem binary.Le = codes "le"
binary_stem binary.LeU = codes "le"
binary_stem binary.Ge = codes "ge"
binary_stem binary.GeU = codes "ge"
binary_stem binary.Gt = codes "gt"
binary_stem binary.GtU = codes "gt"
binary_stem binary.Eq = codes "eq"
binary_stem binary.Ne = codes "ne"

-- of two operands, two results
abbrev pub wide_stem : WideOp → List ℕ
wide_stem wide.Mul = codes "qmul"
wide_stem wide.MulU = codes "qmul"
wide_stem wide.Div = codes "qdiv"
wide_stem wide.DivU = codes "qdiv"

-- branches
abbrev pub condition_stem : Condition → List ℕ
condition_stem condition.Lt = codes "blt"
condition_stem condition.LtU = codes "blt"
condition_stem condition.Le = codes "ble"
condition_stem condition.LeU = codes "ble"
condition_stem condition.Ge = codes "bge"
condition_stem condition.GeU = codes "bge"
condition_stem condition.Gt = codes "bgt"
condition_stem condition.GtU = codes "bgt"
condition_stem condition.Eq = codes "beq"
condition_stem condition.Ne = codes "bne"
condition_stem condition.Ms = codes "bms"
condition_stem condition.Mc = codes "bmc"

-- branches that add or subtract
abbrev pub branch_sum_stem : BranchSumOp → List ℕ
branch_sum_stem branch_sum.OverflowAdd = codes "boadd"
branch_sum_stem branch_sum.OverflowAddU = codes "boadd"
branch_sum_stem branch_sum.OverflowSub = codes "bosub"
branch_sum_stem branch_sum.OverflowSubU = codes "bosub"
branch_sum_stem branch_sum.FitAdd = codes "bxadd"
branch_sum_stem branch_sum.FitAddU = codes "bxadd"
branch_sum_stem branch_sum.FitSub = codes "bxsub"
branch_sum_stem branch_sum.FitSubU = codes "bxsub"

-- jumps, calls and what they pass
abbrev pub control_stem : ControlOp → List ℕ
control_stem control.Jmp = codes "jmp"
control_stem control.Call = codes "call"
control_stem control.Finish = codes "finish"
control_stem control.Pusharg = codes "pusharg"
control_stem control.Ret = codes "ret"

-- of one operand
abbrev pub unary_name : UnaryOp → List ℕ
unary_name unary.Neg = codes "negr"
unary_name unary.Com = codes "comr"
unary_name unary.Mov = codes "movr"
unary_name unary.ExtrC = codes "extr_c"
unary_name unary.ExtrUc = codes "extr_uc"
unary_name unary.ExtrS = codes "extr_s"
unary_name unary.ExtrUs = codes "extr_us"
unary_name unary.ExtrI = codes "extr_i"
unary_name unary.ExtrUi = codes "extr_ui"
unary_name unary.HtonrUs = codes "htonr_us"
unary_name unary.HtonrUi = codes "htonr_ui"
unary_name unary.HtonrUl = codes "htonr_ul"

-- those that come in one form
abbrev pub plain_name : PlainOp → List ℕ
plain_name plain.Movi = codes "movi"
plain_name plain.Prepare = codes "prepare"
plain_name plain.Ellipsis = codes "ellipsis"
plain_name plain.Prolog = codes "prolog"
plain_name plain.Epilog = codes "epilog"
plain_name plain.Ret = codes "ret"
plain_name plain.Arg = codes "arg"
plain_name plain.Allocai = codes "allocai"
plain_name plain.Align = codes ".align"
plain_name plain.VaStart = codes "va_start"
plain_name plain.VaArg = codes "va_arg"
plain_name plain.VaEnd = codes "va_end"

-- the last operand is a register, or an immediate or a label
abbrev pub last_middle : LastOperand → List ℕ
last_middle last_operand.Register = codes "r"
last_middle last_operand.Immediate = codes "i"

-- the address is a register or a number, or the sum of a register and one of these
abbrev pub addressing_middle : Addressing → List ℕ
addressing_middle addressing.Register = codes "r"
addressing_middle addressing.Immediate = codes "i"
addressing_middle addressing.RegisterRegister = codes "xr"
addressing_middle addressing.RegisterImmediate = codes "xi"

-- unsigned operations
abbrev pub binary_end : BinaryOp → List ℕ
binary_end binary.RshU = codes "_u"
binary_end binary.DivU = codes "_u"
binary_end binary.RemU = codes "_u"
binary_end binary.LtU = codes "_u"
binary_end binary.LeU = codes "_u"
binary_end binary.GeU = codes "_u"
binary_end binary.GtU = codes "_u"
binary_end op = []

-- unsigned operations
abbrev pub wide_end : WideOp → List ℕ
wide_end wide.MulU = codes "_u"
wide_end wide.DivU = codes "_u"
wide_end op = []

-- unsigned conditions
abbrev pub condition_end : Condition → List ℕ
condition_end condition.LtU = codes "_u"
condition_end condition.LeU = codes "_u"
condition_end condition.GeU = codes "_u"
condition_end condition.GtU = codes "_u"
condition_end op = []

-- unsigned sums
abbrev pub branch_sum_end : BranchSumOp → List ℕ
branch_sum_end branch_sum.OverflowAddU = codes "_u"
branch_sum_end branch_sum.OverflowSubU = codes "_u"
branch_sum_end branch_sum.FitAddU = codes "_u"
branch_sum_end branch_sum.FitSubU = codes "_u"
branch_sum_end op = []

-- what is read; 8 bytes have no mark
abbrev pub value_type_end : ValueType → List ℕ
value_type_end value_type.Char = codes "_c"
value_type_end value_type.UnsignedChar = codes "_uc"
value_type_end value_type.Short = codes "_s"
value_type_end value_type.UnsignedShort = codes "_us"
value_type_end value_type.Int = codes "_i"
value_type_end value_type.UnsignedInt = codes "_ui"
value_type_end value_type.Long = []

-- what is written; 8 bytes have no mark
abbrev pub store_type_end : StoreType → List ℕ
store_type_end store_type.Char = codes "_c"
store_type_end store_type.Short = codes "_s"
store_type_end store_type.Int = codes "_i"
store_type_end store_type.Long = []

abbrev pub stem_of : Op → List ℕ
stem_of (Binary op last) = binary_stem op
stem_of (Wide op last) = wide_stem op
stem_of (Branch op last) = condition_stem op
stem_of (BranchSum op last) = branch_sum_stem op
stem_of (Control op last) = control_stem op
stem_of (Unary op) = unary_name op
stem_of (Plain op) = plain_name op
stem_of (Load t at) = codes "ld"
stem_of (Store t at) = codes "st"
stem_of (Retval t) = codes "retval"
stem_of (Getarg t) = codes "getarg"

abbrev pub middle_of : Op → List ℕ
middle_of (Binary op last) = last_middle last
middle_of (Wide op last) = last_middle last
middle_of (Branch op last) = last_middle last
middle_of (BranchSum op last) = last_middle last
middle_of (Control op last) = last_middle last
middle_of (Load t at) = addressing_middle at
middle_of (Store t at) = addressing_middle at
middle_of op = []

abbrev pub end_of : Op → List ℕ
end_of (Binary op last) = binary_end op
end_of (Wide op last) = wide_end op
end_of (Branch op last) = condition_end op
end_of (BranchSum op last) = branch_sum_end op
end_of (Load t at) = value_type_end t
end_of (Store t at) = store_type_end t
end_of (Retval t) = value_type_end t
end_of (Getarg t) = value_type_end t
end_of op = []

-- the name that a listing prints
abbrev pub name : Op → List ℕ
name op = stem_of op ++ middle_of op ++ end_of op

-- the type is that of 8 bytes
abbrev pub is_long : Op → Bool
is_long (Load value_type.Long at) = true
is_long (Store store_type.Long at) = true
is_long (Retval value_type.Long) = true
is_long (Getarg value_type.Long) = true
is_long op = false

-- a word names an operation by its name, or with the type _l where that is its type
abbrev pub IsName : Op → List ℕ → Type 0
IsName op word = (word ≡ name op) ⊎ ((is_long op ≡ true) × (word ≡ name op ++ codes "_l"))

-- the same as a test
abbrev pub is_name : Op → List ℕ → Bool
is_name op word = bytes_eq word (name op) || (is_long op && bytes_eq word (name op ++ codes "_l"))

-- the operation of a word among some names
abbrev pub named : List ℕ → List (List ℕ × Op) → Option Op
named word [] = None
named word (e ∷ es) = if bytes_eq word e.0 then Some e.1 else named word es

-- the names that begin with a byte
abbrev pub names_from : ℕ → List (List ℕ × Op)
names_from b =
    if b == 46 then map (λ e. (e.0.now, e.1)) NAMES_DOT else (
    if b == 97 then map (λ e. (e.0.now, e.1)) NAMES_A else (
    if b == 98 then map (λ e. (e.0.now, e.1)) NAMES_B else (
    if b == 99 then map (λ e. (e.0.now, e.1)) NAMES_C else (
    if b == 100 then map (λ e. (e.0.now, e.1)) NAMES_D else (
    if b == 101 then map (λ e. (e.0.now, e.1)) NAMES_E else (
    if b == 102 then map (λ e. (e.0.now, e.1)) NAMES_F else (
    if b == 103 then map (λ e. (e.0.now, e.1)) NAMES_G else (
    if b == 104 then map (λ e. (e.0.now, e.1)) NAMES_H else (
    if b == 106 then map (λ e. (e.0.now, e.1)) NAMES_J else (
    if b == 108 then map (λ e. (e.0.now, e.1)) NAMES_L else (
    if b == 109 then map (λ e. (e.0.now, e.1)) NAMES_M else (
    if b == 110 then map (λ e. (e.0.now, e.1)) NAMES_N else (
    if b == 111 then map (λ e. (e.0.now, e.1)) NAMES_O else (
    if b == 112 then map (λ e. (e.0.now, e.1)) NAMES_P else (
    if b == 113 then map (λ e. (e.0.now, e.1)) NAMES_Q else (
    if b == 114 then map (λ e. (e.0.now, e.1)) NAMES_R else (
    if b == 115 then map (λ e. (e.0.now, e.1)) NAMES_S else (
    if b == 118 then map (λ e. (e.0.now, e.1)) NAMES_V else (
    if b == 120 then map (λ e. (e.0.now, e.1)) NAMES_X else ([]))))))))))))))))))))
