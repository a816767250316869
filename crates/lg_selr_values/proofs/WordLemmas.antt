-- How many instructions the items of a node are.
use Rattle.std.proofs.Common.{ℕ, ◌+◌, ◌*◌, ◌≤◌, Bool, true, false, List, [], ◌∷◌, ◌++◌, arith, length, length-append}
use Rattle.std.specs.Prelude.{◌==◌, if◌then◌else◌, pos}
use Rattle.lg_op.specs.declared.op.Op.{Op}
use Rattle.lg_op.specs.declared.op.Op.TheVariants as op
use Rattle.lg_op.specs.declared.op.BinaryOp.{BinaryOp}
use Rattle.lg_op.specs.declared.op.BinaryOp.TheVariants as binary
use Rattle.lg_op.specs.declared.op.WideOp.{WideOp}
use Rattle.lg_op.specs.declared.op.WideOp.TheVariants as wide
use Rattle.lg_op.specs.declared.op.UnaryOp.{UnaryOp}
use Rattle.lg_op.specs.declared.op.UnaryOp.TheVariants as unary
use Rattle.lg_op.specs.declared.op.PlainOp.TheVariants as plain
use Rattle.lg_op.specs.declared.operand.Operand.{Operand}
use Rattle.lg_op.specs.declared.operand.Operand.TheVariants as operand
use Rattle.lg_op.specs.Operators.{sets_carry}
use Rattle.lg_rv.specs.declared.instruction.Instr.{Instr}
use Rattle.lg_rv.specs.declared.instruction.Instr.TheVariants.{Imm, Reg}
use Rattle.lg_rv.specs.declared.instruction.ImmOp.TheVariants.{Addi, Sltiu, Ld}
use Rattle.lg_rv.specs.declared.instruction.RegOp.TheVariants as row
use Rattle.lg_temp.specs.declared.choice.Choice.{Choice}
use Rattle.lg_temp.specs.declared.choice.Choice.TheVariants.{Free, Own, Spill}
use Rattle.lg_base.specs.declared.target.Target.TheVariants.{Riscv64}
use Rattle.lg_temp.specs.Abis.{register_of}
use Rattle.lg_base.specs.Words.{negated}
use Rattle.lg_selr_values.specs.Processor.Numbers.{low_part, number_code}
use Rattle.lg_selr_values.specs.Processor.RvRows.{slot_offset}
use Rattle.lg_selr_values.specs.declared.items.Item.{Item}
use Rattle.lg_selr_values.specs.declared.items.Item.TheVariants.{One}
use Rattle.lg_selr_values.specs.Items.{words_in, ones}
use Rattle.lg_selr_values.proofs.ItemLemmas.{words_append, words-ones}
use Rattle.lg_selr_values.specs.BinaryCode.{register_code, is_addend, loaded_code, zero_or_loaded_code, equal_code, unequal_code, held_code, held_or_loaded_code, number_form_code}
use Rattle.lg_selr_values.specs.CarryCode.{carry_code}
use Rattle.lg_carry.specs.Values.ValueNodes.{extension}
use Rattle.lg_selr_values.specs.UnaryCode.{unary_code, retval_code}
use Rattle.lg_selr_values.specs.WideCode.{wide_code}
use Rattle.lg_carry.specs.Values.Parts.{operand_in}
use Rattle.lg_selr_values.specs.ValueItems.{load_items, binary_items, second_items, carry_items, wide_items, operation_items, register_in, body_items, saved_items}
use Rattle.lg_selr_values.proofs.EmissionLemmas.{number_few, load_words, second_words}

register-few : (o : BinaryOp) (d a b : ℕ) → length (register_code o d a b) ≤ 2
register-few binary.Add d a b = omega arith
register-few o d a b = omega arith

loaded-few : (o : BinaryOp) (d a v : ℕ) → length (loaded_code o d a v) ≤ 10
loaded-few o d a v = let l = length-append (number_code 1 v) (register_code o d a 1) in let n = number_few 1 v in let r = register-few o d a 1 in omega (arith, l, n, r)

zero-few : (o : BinaryOp) (d a v : ℕ) → length (zero_or_loaded_code o d a v) ≤ 10
zero-few o d a v = by (v == 0)
  where
    by : (b : Bool) → length (if b then register_code o d a 0 else loaded_code o d a v) ≤ 10
    by true = let n = register-few o d a 0 in omega (arith, n)
    by false = loaded-few o d a v

equal-few : (d a v : ℕ) → length (equal_code d a v) ≤ 2
equal-few d a v = by (v == 0)
  where
    by : (b : Bool) → length (if b then Imm Sltiu d a (pos 1) ∷ [] else Imm Addi d a (low_part (negated v)) ∷ Imm Sltiu d d (pos 1) ∷ []) ≤ 2
    by true = omega arith
    by false = omega arith

unequal-few : (d a v : ℕ) → length (unequal_code d a v) ≤ 2
unequal-few d a v = by (v == 0)
  where
    by : (b : Bool) → length (if b then Reg row.Sltu d 0 a ∷ [] else Imm Addi d a (low_part (negated v)) ∷ Reg row.Sltu d 0 d ∷ []) ≤ 2
    by true = omega arith
    by false = omega arith

held-few : (o : BinaryOp) (d a v : ℕ) → length (held_code o d a v) ≤ 2
held-few binary.Eq d a v = equal-few d a v
held-few binary.Ne d a v = unequal-few d a v
held-few o d a v = omega arith

either-few : (o : BinaryOp) (d a v : ℕ) → length (held_or_loaded_code o d a v) ≤ 10
either-few o d a v = by (is_addend v)
  where
    by : (b : Bool) → length (if b then held_code o d a v else loaded_code o d a v) ≤ 10
    by true = let n = held-few o d a v in omega (arith, n)
    by false = loaded-few o d a v

number-form-few : (o : BinaryOp) (d a v : ℕ) → length (number_form_code o d a v) ≤ 10
number-form-few binary.Add d a v = either-few binary.Add d a v
number-form-few binary.Sub d a v = either-few binary.Sub d a v
number-form-few binary.Rsb d a v = either-few binary.Rsb d a v
number-form-few binary.And d a v = either-few binary.And d a v
number-form-few binary.Or d a v = either-few binary.Or d a v
number-form-few binary.Xor d a v = either-few binary.Xor d a v
number-form-few binary.Lt d a v = either-few binary.Lt d a v
number-form-few binary.LtU d a v = either-few binary.LtU d a v
number-form-few binary.Ge d a v = either-few binary.Ge d a v
number-form-few binary.GeU d a v = either-few binary.GeU d a v
number-form-few binary.Eq d a v = either-few binary.Eq d a v
number-form-few binary.Ne d a v = either-few binary.Ne d a v
number-form-few binary.Lsh d a v = omega arith
number-form-few binary.Rsh d a v = omega arith
number-form-few binary.RshU d a v = omega arith
number-form-few binary.Le d a v = zero-few binary.Le d a v
number-form-few binary.LeU d a v = zero-few binary.LeU d a v
number-form-few binary.Gt d a v = zero-few binary.Gt d a v
number-form-few binary.GtU d a v = zero-few binary.GtU d a v
number-form-few o d a v = loaded-few o d a v

carried-few : (o : BinaryOp) (u d a : ℕ) → length (carry_code o u d a) ≤ 5
carried-few binary.Addc u d a = omega arith
carried-few o u d a = omega arith

wide-few : (o : WideOp) (d e a b : ℕ) → length (wide_code o d e a b) ≤ 3
wide-few wide.Mul d e a b = omega arith
wide-few o d e a b = omega arith

unary-few : (o : UnaryOp) (d a : ℕ) → length (unary_code o d a) ≤ 30
unary-few unary.Neg d a = omega arith
unary-few o d a = omega arith

-- ---- items
ones-few : (is : List Instr) (n : ℕ) → length is ≤ n → words_in (ones is) ≤ n
ones-few is n h = let w = words-ones is in omega (arith, w, h)

both-few : (xs : List Item) (is : List Instr) (m n : ℕ) → words_in xs ≤ m → length is ≤ n → words_in (xs ++ ones is) ≤ m + n
both-few xs is m n h k = let a = words_append xs (ones is) in let w = words-ones is in omega (arith, a, w, h, k)

load-few : (t : ℕ) (x : Operand) → words_in (load_items t x) ≤ 8
load-few t x = let w = load_words [] t x in omega (arith, w)

second-few : (x : Operand) → words_in (second_items x) ≤ 8
second-few x = let w = second_words [] x in omega (arith, w)

binary-few : (o : BinaryOp) (d a : ℕ) (x : Operand) → words_in (binary_items o d a x) ≤ 10
binary-few o d a (operand.Reg r) = let h = ones-few (register_code o d a (register_of Riscv64 r)) 2 (register-few o d a (register_of Riscv64 r)) in omega (arith, h)
binary-few o d a (operand.Number v) = ones-few (number_form_code o d a v) 10 (number-form-few o d a v)
binary-few o d a (operand.Host name) = both-few (load_items 1 (operand.Host name)) (register_code o d a 1) 8 2 (load-few 1 (operand.Host name)) (register-few o d a 1)
binary-few o d a (operand.Label l) = both-few (load_items 1 (operand.Label l)) (register_code o d a 1) 8 2 (load-few 1 (operand.Label l)) (register-few o d a 1)
binary-few o d a (operand.Slot k) = both-few (load_items 1 (operand.Slot k)) (register_code o d a 1) 8 2 (load-few 1 (operand.Slot k)) (register-few o d a 1)

wide-items-few : (o : WideOp) (d e a : ℕ) (x : Operand) → words_in (wide_items o d e a x) ≤ 11
wide-items-few o d e a (operand.Reg r) = let h = ones-few (wide_code o d e a (register_of Riscv64 r)) 3 (wide-few o d e a (register_of Riscv64 r)) in omega (arith, h)
wide-items-few o d e a (operand.Number v) = both-few (load_items 31 (operand.Number v)) (wide_code o d e a 31) 8 3 (load-few 31 (operand.Number v)) (wide-few o d e a 31)
wide-items-few o d e a (operand.Host name) = both-few (load_items 31 (operand.Host name)) (wide_code o d e a 31) 8 3 (load-few 31 (operand.Host name)) (wide-few o d e a 31)
wide-items-few o d e a (operand.Label l) = both-few (load_items 31 (operand.Label l)) (wide_code o d e a 31) 8 3 (load-few 31 (operand.Label l)) (wide-few o d e a 31)
wide-items-few o d e a (operand.Slot k) = both-few (load_items 31 (operand.Slot k)) (wide_code o d e a 31) 8 3 (load-few 31 (operand.Slot k)) (wide-few o d e a 31)

operation-few : (o : BinaryOp) (u d a : ℕ) (x : Operand) → words_in (operation_items o u d a x) ≤ 13
operation-few o u d a x = by (sets_carry o)
  where
    by : (b : Bool) → words_in (if b then carry_items o u d a x else binary_items o d a x) ≤ 13
    by true = both-few (second_items x) (carry_code o u d a) 8 5 (second-few x) (carried-few o u d a)
    by false = let h = binary-few o d a x in omega (arith, h)

pub body_few : (o : Op) (xs : List Operand) (u : ℕ) → words_in (body_items o xs u) ≤ 30
body_few (op.Binary o last) xs u = let h = operation-few o u (register_in xs 0) (register_in xs 1) (operand_in xs 2) in omega (arith, h)
body_few (op.Wide o last) xs u = let h = wide-items-few o (register_in xs 0) (register_in xs 1) (register_in xs 2) (operand_in xs 3) in omega (arith, h)
body_few (op.Unary o) xs u = ones-few (unary_code o (register_in xs 0) (register_in xs 1)) 30 (unary-few o (register_in xs 0) (register_in xs 1))
body_few (op.Plain plain.Movi) xs u = let h = load-few (register_in xs 0) (operand_in xs 1) in omega (arith, h)
body_few (op.Plain plain.VaStart) xs u = let h = load-few (register_in xs 0) (operand_in xs 1) in omega (arith, h)
body_few (op.Plain o) xs u = omega arith
body_few (op.Retval t) xs u = ones-few (retval_code t (register_in xs 0)) 30 (unary-few (extension t) (register_in xs 0) 10)
body_few o xs u = omega arith

-- a save and a restore for each choice at most
pub saved_few : (choices : List Choice) (body : List Item) (n : ℕ) → words_in body ≤ n → words_in (saved_items choices body) ≤ n + 2 * length choices
saved_few [] body n h = omega (arith, h)
saved_few (Free r ∷ choices) body n h = let m = saved_few choices body n h in omega (arith, m)
saved_few (Own r ∷ choices) body n h = let m = saved_few choices body n h in omega (arith, m)
saved_few (Spill r k ∷ choices) body n h =
    let m = saved_few choices body n h in
    let a = words_append (saved_items choices body) (One (Imm Ld r 8 (slot_offset k)) ∷ []) in
    omega (arith, m, a)

pub body_words : (xs : List Item) (o : Op) (ys : List Operand) (u : ℕ) → words_in (xs ++ body_items o ys u) ≤ words_in xs + 30
body_words xs o ys u = let a = words_append xs (body_items o ys u) in let f = body_few o ys u in omega (arith, a, f)

pub saved_words : (xs : List Item) (choices : List Choice) (o : Op) (ys : List Operand) (u : ℕ) → words_in (xs ++ saved_items choices (body_items o ys u)) ≤ words_in xs + 30 + 2 * length choices
saved_words xs choices o ys u = let a = words_append xs (saved_items choices (body_items o ys u)) in let f = saved_few choices (body_items o ys u) 30 (body_few o ys u) in omega (arith, a, f)
