-- Each name leads to its operation, and to no other.
use Rattle.std.proofs.Common.{◌≡◌, ℕ, Bool, true, false, ◌&&◌, ◌||◌, cond, List, [], ◌∷◌, ◌++◌, inl, inr, Option, Some, refl, sym, ap, subst, ◌∙◌, ◌==◌, codes, slice_index, IfSome}
use Rattle.std.specs.Str.{bytes_eq}
use Rattle.std.specs.List.{list_all}
use Rattle.std.proofs.lemmas.Bool.{false≢true, and_parts}
use Rattle.std.proofs.lemmas.Slice.Eq.{bytes_eq-Decides}
use Rattle.lg_op.specs.Names.{name, is_long, is_name, IsName, named, names_from}
use Rattle.lg_op.specs.declared.op.BinaryOp.{BinaryOp}
use Rattle.lg_op.specs.declared.op.BinaryOp.TheVariants as binary
use Rattle.lg_op.specs.declared.op.WideOp.{WideOp}
use Rattle.lg_op.specs.declared.op.WideOp.TheVariants as wide
use Rattle.lg_op.specs.declared.op.Condition.{Condition}
use Rattle.lg_op.specs.declared.op.Condition.TheVariants as condition
use Rattle.lg_op.specs.declared.op.BranchSumOp.{BranchSumOp}
use Rattle.lg_op.specs.declared.op.BranchSumOp.TheVariants as branch_sum
use Rattle.lg_op.specs.declared.op.ControlOp.{ControlOp}
use Rattle.lg_op.specs.declared.op.ControlOp.TheVariants as control
use Rattle.lg_op.specs.declared.op.UnaryOp.{UnaryOp}
use Rattle.lg_op.specs.declared.op.UnaryOp.TheVariants as unary
use Rattle.lg_op.specs.declared.op.PlainOp.{PlainOp}
use Rattle.lg_op.specs.declared.op.PlainOp.TheVariants as plain
use Rattle.lg_op.specs.declared.op.ValueType.{ValueType}
use Rattle.lg_op.specs.declared.op.ValueType.TheVariants as value_type
use Rattle.lg_op.specs.declared.op.StoreType.{StoreType}
use Rattle.lg_op.specs.declared.op.StoreType.TheVariants as store_type
use Rattle.lg_op.specs.declared.op.Addressing.{Addressing}
use Rattle.lg_op.specs.declared.op.Addressing.TheVariants as addressing
use Rattle.lg_op.specs.declared.op.LastOperand.{LastOperand}
use Rattle.lg_op.specs.declared.op.LastOperand.TheVariants as last_operand
use Rattle.lg_op.specs.declared.op.Op.{Op}
use Rattle.lg_op.specs.declared.op.Op.TheVariants.{Binary, Wide, Branch, BranchSum, Control, Unary, Plain, Load, Store, Retval, Getarg}

-- the operation that a word leads to
abbrev pub found : List ℕ → Option Op
found word = named word (names_from (slice_index word 0))

abbrev IsFound : Op → Type 0
IsFound op = found (name op) ≡ Some op

abbrev IsFoundLong : Op → Type 0
IsFoundLong op = found (name op ++ codes "_l") ≡ Some op

both : (P : LastOperand → Type 0) → P last_operand.Register → P last_operand.Immediate → (last : LastOperand) → P last
both P r i last_operand.Register = r
both P r i last_operand.Immediate = i

every_address : (P : Addressing → Type 0) → P addressing.Register → P addressing.Immediate → P addressing.RegisterRegister → P addressing.RegisterImmediate → (at : Addressing) → P at
every_address P r i xr xi addressing.Register = r
every_address P r i xr xi addressing.Immediate = i
every_address P r i xr xi addressing.RegisterRegister = xr
every_address P r i xr xi addressing.RegisterImmediate = xi

binary_again : (op : BinaryOp) (last : LastOperand) → IsFound (Binary op last)
binary_again binary.Add = both _ refl refl
binary_again _ = both _ refl refl

wide_again : (op : WideOp) (last : LastOperand) → IsFound (Wide op last)
wide_again wide.Mul = both _ refl refl
wide_again _ = both _ refl refl

condition_again : (op : Condition) (last : LastOperand) → IsFound (Branch op last)
condition_again condition.Lt = both _ refl refl
condition_again _ = both _ refl refl

branch_sum_again : (op : BranchSumOp) (last : LastOperand) → IsFound (BranchSum op last)
branch_sum_again branch_sum.OverflowAdd = both _ refl refl
branch_sum_again _ = both _ refl refl

control_again : (op : ControlOp) (last : LastOperand) → IsFound (Control op last)
control_again control.Jmp = both _ refl refl
control_again _ = both _ refl refl

unary_again : (op : UnaryOp) → IsFound (Unary op)
unary_again unary.Neg = refl
unary_again _ = refl

plain_again : (op : PlainOp) → IsFound (Plain op)
plain_again plain.Movi = refl
plain_again _ = refl

load_again : (t : ValueType) (at : Addressing) → IsFound (Load t at)
load_again value_type.Char = every_address _ refl refl refl refl
load_again _ = every_address _ refl refl refl refl

store_again : (t : StoreType) (at : Addressing) → IsFound (Store t at)
store_again store_type.Char = every_address _ refl refl refl refl
store_again _ = every_address _ refl refl refl refl

retval_again : (t : ValueType) → IsFound (Retval t)
retval_again value_type.Char = refl
retval_again _ = refl

getarg_again : (t : ValueType) → IsFound (Getarg t)
getarg_again value_type.Char = refl
getarg_again _ = refl

pub again : (op : Op) → IsFound op
again (Binary op last) = binary_again op last
again (Wide op last) = wide_again op last
again (Branch op last) = condition_again op last
again (BranchSum op last) = branch_sum_again op last
again (Control op last) = control_again op last
again (Unary op) = unary_again op
again (Plain op) = plain_again op
again (Load t at) = load_again t at
again (Store t at) = store_again t at
again (Retval t) = retval_again t
again (Getarg t) = getarg_again t

pub long_again : (op : Op) → is_long op ≡ true → IsFoundLong op
long_again (Load value_type.Long at) h = every_address (λ a. IsFoundLong (Load value_type.Long a)) refl refl refl refl at
long_again (Store store_type.Long at) h = every_address (λ a. IsFoundLong (Store store_type.Long a)) refl refl refl refl at
long_again (Retval value_type.Long) h = refl
long_again (Getarg value_type.Long) h = refl
long_again other h = absurd (false≢true h)

-- a test of a word says whether it names the operation
is_name_of : (op : Op) (word : List ℕ) → is_name op word ≡ true → IsName op word
is_name_of op word e = by (bytes_eq word (name op)) (is_long op) (bytes_eq word (name op ++ codes "_l")) refl refl refl e
  where
    by : (a b c : Bool) → bytes_eq word (name op) ≡ a → is_long op ≡ b → bytes_eq word (name op ++ codes "_l") ≡ c → (a || (b && c)) ≡ true → IsName op word
    by true b c ea eb ec t = inl ((bytes_eq-Decides word (name op)).0 ea)
    by false true true ea eb ec t = inr (eb, (bytes_eq-Decides word (name op ++ codes "_l")).0 ec)
    by false true false ea eb ec t = absurd (false≢true t)
    by false false c ea eb ec t = absurd (false≢true t)

-- a name names its operation
abbrev is_right : List ℕ × Op → Bool
is_right e = is_name e.1 e.0

-- one of two lists
all_of : (c : Bool) (xs ys : List (List ℕ × Op)) → list_all is_right xs ≡ true → list_all is_right ys ≡ true → list_all is_right (cond c xs ys) ≡ true
all_of true xs ys x y = x
all_of false xs ys x y = y

-- the names are those of their operations
all_right : (b : ℕ) → list_all is_right (names_from b) ≡ true
all_right b =
    (all_of (b == 46) _ _ refl
    (all_of (b == 97) _ _ refl
    (all_of (b == 98) _ _ refl
    (all_of (b == 99) _ _ refl
    (all_of (b == 100) _ _ refl
    (all_of (b == 101) _ _ refl
    (all_of (b == 102) _ _ refl
    (all_of (b == 103) _ _ refl
    (all_of (b == 104) _ _ refl
    (all_of (b == 106) _ _ refl
    (all_of (b == 108) _ _ refl
    (all_of (b == 109) _ _ refl
    (all_of (b == 110) _ _ refl
    (all_of (b == 111) _ _ refl
    (all_of (b == 112) _ _ refl
    (all_of (b == 113) _ _ refl
    (all_of (b == 114) _ _ refl
    (all_of (b == 115) _ _ refl
    (all_of (b == 118) _ _ refl
    (all_of (b == 120) _ _ refl refl
    ))))))))))))))))))))

-- what is found has the name
named_right : (word : List ℕ) (es : List (List ℕ × Op)) → list_all is_right es ≡ true → IfSome (named word es) (λ op. IsName op word)
named_right word [] all = tt
named_right word (e ∷ es) all =
    let parts = and_parts (is_right e) (list_all is_right es) all in
    by (bytes_eq word e.0) refl parts.0 (named_right word es parts.1)
  where
    by : (b : Bool) → bytes_eq word e.0 ≡ b → is_right e ≡ true → IfSome (named word es) (λ op. IsName op word) → IfSome (cond b (Some e.1) (named word es)) (λ op. IsName op word)
    by true same right rest = is_name_of e.1 word (ap (is_name e.1) ((bytes_eq-Decides word e.0).0 same) ∙ right)
    by false other right rest = rest

-- a word leads to an operation that it names
pub found_named : (r : Option Op) (word : List ℕ) → r ≡ found word → IfSome r (λ op. IsName op word)
found_named r word e = subst (λ o. IfSome o (λ op. IsName op word)) (sym e) (named_right word (names_from (slice_index word 0)) (all_right (slice_index word 0)))
