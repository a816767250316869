-- How many instructions the items of a node are.
use Rattle.std.proofs.Common.{ℕ, ◌+◌, ◌*◌, ◌≤◌, Bool, true, false, List, [], ◌∷◌, ◌++◌, arith, length, length-append}
use Rattle.std.specs.Prelude.{◌==◌, if◌then◌else◌}
use Rattle.lg_base.specs.Words.{negated}
use Rattle.lg_base.specs.declared.target.Target.TheVariants.{Aarch64}
use Rattle.lg_op.specs.declared.op.Op.{Op}
use Rattle.lg_op.specs.declared.op.Op.TheVariants as op
use Rattle.lg_op.specs.declared.op.BinaryOp.{BinaryOp}
use Rattle.lg_op.specs.declared.op.BinaryOp.TheVariants as binary
use Rattle.lg_op.specs.declared.op.WideOp.{WideOp}
use Rattle.lg_op.specs.declared.op.WideOp.TheVariants as wide
use Rattle.lg_op.specs.declared.op.UnaryOp.{UnaryOp}
use Rattle.lg_op.specs.declared.op.UnaryOp.TheVariants as unary
use Rattle.lg_op.specs.declared.op.PlainOp.TheVariants as plain
use Rattle.lg_op.specs.declared.operand.Operand.{Operand}
use Rattle.lg_op.specs.declared.operand.Operand.TheVariants as operand
use Rattle.lg_a64.specs.declared.instruction.Instr.{Instr}
use Rattle.lg_a64.specs.declared.instruction.Instr.TheVariants.{Reg, MulAdd, Unscaled}
use Rattle.lg_a64.specs.declared.instruction.MulAddOp.TheVariants.{Madd, Msub}
use Rattle.lg_a64.specs.declared.instruction.RegOp.{RegOp}
use Rattle.lg_a64.specs.declared.instruction.RegOp.TheVariants as row
use Rattle.lg_a64.specs.declared.instruction.UnscaledOp.TheVariants.{Ldur}
use Rattle.lg_temp.specs.declared.choice.Choice.{Choice}
use Rattle.lg_temp.specs.declared.choice.Choice.TheVariants.{Free, Own, Spill}
use Rattle.lg_temp.specs.Abis.{register_of}
use Rattle.lg_sela_values.specs.Processor.A64Rows.{frame_pointer, link, slot_offset}
use Rattle.lg_sela_values.specs.Processor.Numbers.{number_code}
use Rattle.lg_sela_values.proofs.OfProcessor.NumberCodeLemmas.{number-few}
use Rattle.lg_sela_values.specs.declared.items.Item.{Item}
use Rattle.lg_sela_values.specs.declared.items.Item.TheVariants.{One}
use Rattle.lg_sela_values.specs.Items.{words_in, ones}
use Rattle.lg_sela_values.proofs.ItemLemmas.{words_append, words-ones}
use Rattle.lg_sela_values.specs.BinaryCode.{register_code, second_register, loaded_code, is_small, takes_small, small_code, takes_negative, negative_code, negative_form_code, small_form_code, is_mask, mask_code, mask_form_code, number_form_code}
use Rattle.lg_carry.specs.Values.ValueNodes.{extension}
use Rattle.lg_sela_values.specs.UnaryCode.{unary_code, retval_code}
use Rattle.lg_sela_values.specs.WideCode.{product_by_link, quotient_by_link, wide_code, wide_by_link}
use Rattle.lg_carry.specs.Values.Parts.{operand_in}
use Rattle.lg_sela_values.specs.ValueItems.{load_items, binary_items, wide_items, register_in, body_items, saved_items}
use Rattle.lg_sela_values.proofs.EmissionLemmas.{load_words}

register-few : (o : BinaryOp) (d a b : ℕ) → length (register_code o d a b) ≤ 2
register-few binary.Add d a b = omega arith
register-few o d a b = omega arith

loaded-few : (o : BinaryOp) (u d a v : ℕ) → length (loaded_code o u d a v) ≤ 6
loaded-few o u d a v =
    let t = second_register o u in
    let l = length-append (number_code t v) (register_code o d a t) in
    let n = number-few t v in
    let r = register-few o d a t in
    omega (arith, l, n, r)

small-few : (o : BinaryOp) (d a v : ℕ) → length (small_code o d a v) ≤ 2
small-few binary.Add d a v = omega arith
small-few o d a v = omega arith

negative-few : (o : BinaryOp) (d a v : ℕ) → length (negative_code o d a v) ≤ 1
negative-few binary.Add d a v = omega arith
negative-few o d a v = omega arith

negative-form-few : (o : BinaryOp) (u d a v : ℕ) → length (negative_form_code o u d a v) ≤ 6
negative-form-few o u d a v = by (takes_negative o) (is_small (negated v))
  where
    by : (b c : Bool) → length (if b then (if c then negative_code o d a v else loaded_code o u d a v) else loaded_code o u d a v) ≤ 6
    by true true = let n = negative-few o d a v in omega (arith, n)
    by true false = loaded-few o u d a v
    by false c = loaded-few o u d a v

small-form-few : (o : BinaryOp) (u d a v : ℕ) → length (small_form_code o u d a v) ≤ 6
small-form-few o u d a v = by (takes_small o) (is_small v)
  where
    by : (b c : Bool) → length (if b then (if c then small_code o d a v else negative_form_code o u d a v) else loaded_code o u d a v) ≤ 6
    by true true = let n = small-few o d a v in omega (arith, n)
    by true false = negative-form-few o u d a v
    by false c = loaded-few o u d a v

mask-form-few : (u d a v : ℕ) → length (mask_form_code u d a v) ≤ 6
mask-form-few u d a v = by (is_mask v)
  where
    by : (b : Bool) → length (if b then mask_code d a v else loaded_code binary.And u d a v) ≤ 6
    by true = omega arith
    by false = loaded-few binary.And u d a v

number-form-few : (o : BinaryOp) (u d a v : ℕ) → length (number_form_code o u d a v) ≤ 6
number-form-few binary.Lsh u d a v = omega arith
number-form-few binary.Rsh u d a v = omega arith
number-form-few binary.RshU u d a v = omega arith
number-form-few binary.And u d a v = mask-form-few u d a v
number-form-few o u d a v = small-form-few o u d a v

wide-few : (o : WideOp) (d e a b : ℕ) → length (wide_code o d e a b) ≤ 3
wide-few wide.Mul d e a b = omega arith
wide-few o d e a b = omega arith

product-few : (high : RegOp) (d e a : ℕ) → length (product_by_link high d e a) ≤ 4
product-few high d e a = by (e == a)
  where
    by : (b : Bool) → length (if b then MulAdd Madd d a 30 31 ∷ Reg high e a 30 ∷ [] else Reg high e a 30 ∷ MulAdd Madd d a 30 31 ∷ []) ≤ 4
    by true = omega arith
    by false = omega arith

quotient-few : (divide : RegOp) (d e a : ℕ) → length (quotient_by_link divide d e a) ≤ 4
quotient-few divide d e a = by (e == a)
  where
    by : (b : Bool) → length (if b then Reg divide d a 30 ∷ MulAdd Msub e d 30 a ∷ [] else Reg divide e a 30 ∷ MulAdd Msub 30 e 30 a ∷ Reg row.Orr d 31 e ∷ Reg row.Orr e 31 30 ∷ []) ≤ 4
    by true = omega arith
    by false = omega arith

link-few : (o : WideOp) (d e a : ℕ) → length (wide_by_link o d e a) ≤ 4
link-few wide.Mul d e a = product-few row.Smulh d e a
link-few wide.MulU d e a = product-few row.Umulh d e a
link-few wide.Div d e a = quotient-few row.Sdiv d e a
link-few wide.DivU d e a = quotient-few row.Udiv d e a

unary-few : (o : UnaryOp) (d a : ℕ) → length (unary_code o d a) ≤ 2
unary-few unary.Neg d a = omega arith
unary-few o d a = omega arith

-- ---- items
ones-few : (is : List Instr) (n : ℕ) → length is ≤ n → words_in (ones is) ≤ n
ones-few is n h = let w = words-ones is in omega (arith, w, h)

both-few : (xs : List Item) (is : List Instr) (m n : ℕ) → words_in xs ≤ m → length is ≤ n → words_in (xs ++ ones is) ≤ m + n
both-few xs is m n h k = let a = words_append xs (ones is) in let w = words-ones is in omega (arith, a, w, h, k)

load-few : (t : ℕ) (x : Operand) → words_in (load_items t x) ≤ 4
load-few t x = let w = load_words [] t x in omega (arith, w)

loaded-items-few : (o : BinaryOp) (u d a : ℕ) (x : Operand) → words_in (load_items (second_register o u) x ++ ones (register_code o d a (second_register o u))) ≤ 6
loaded-items-few o u d a x = both-few (load_items (second_register o u) x) (register_code o d a (second_register o u)) 4 2 (load-few (second_register o u) x) (register-few o d a (second_register o u))

binary-few : (o : BinaryOp) (u d a : ℕ) (x : Operand) → words_in (binary_items o u d a x) ≤ 6
binary-few o u d a (operand.Reg r) = let h = ones-few (register_code o d a (register_of Aarch64 r)) 2 (register-few o d a (register_of Aarch64 r)) in omega (arith, h)
binary-few o u d a (operand.Number v) = ones-few (number_form_code o u d a v) 6 (number-form-few o u d a v)
binary-few o u d a (operand.Host name) = loaded-items-few o u d a (operand.Host name)
binary-few o u d a (operand.Label l) = loaded-items-few o u d a (operand.Label l)
binary-few o u d a (operand.Slot k) = loaded-items-few o u d a (operand.Slot k)

link-items-few : (o : WideOp) (d e a : ℕ) (x : Operand) → words_in (load_items link x ++ ones (wide_by_link o d e a)) ≤ 8
link-items-few o d e a x = both-few (load_items link x) (wide_by_link o d e a) 4 4 (load-few link x) (link-few o d e a)

wide-items-few : (o : WideOp) (d e a : ℕ) (x : Operand) → words_in (wide_items o d e a x) ≤ 8
wide-items-few o d e a (operand.Reg r) = let h = ones-few (wide_code o d e a (register_of Aarch64 r)) 3 (wide-few o d e a (register_of Aarch64 r)) in omega (arith, h)
wide-items-few o d e a (operand.Number v) = link-items-few o d e a (operand.Number v)
wide-items-few o d e a (operand.Host name) = link-items-few o d e a (operand.Host name)
wide-items-few o d e a (operand.Label l) = link-items-few o d e a (operand.Label l)
wide-items-few o d e a (operand.Slot k) = link-items-few o d e a (operand.Slot k)

pub body_few : (o : Op) (xs : List Operand) (u : ℕ) → words_in (body_items o xs u) ≤ 8
body_few (op.Binary o last) xs u = let h = binary-few o u (register_in xs 0) (register_in xs 1) (operand_in xs 2) in omega (arith, h)
body_few (op.Wide o last) xs u = wide-items-few o (register_in xs 0) (register_in xs 1) (register_in xs 2) (operand_in xs 3)
body_few (op.Unary o) xs u = let h = ones-few (unary_code o (register_in xs 0) (register_in xs 1)) 2 (unary-few o (register_in xs 0) (register_in xs 1)) in omega (arith, h)
body_few (op.Plain plain.Movi) xs u = let h = load-few (register_in xs 0) (operand_in xs 1) in omega (arith, h)
body_few (op.Plain plain.VaStart) xs u = let h = load-few (register_in xs 0) (operand_in xs 1) in omega (arith, h)
body_few (op.Plain o) xs u = omega arith
body_few (op.Retval t) xs u = let h = ones-few (retval_code t (register_in xs 0)) 2 (unary-few (extension t) (register_in xs 0) 0) in omega (arith, h)
body_few o xs u = omega arith

-- a save and a restore for each choice at most
pub saved_few : (choices : List Choice) (body : List Item) (n : ℕ) → words_in body ≤ n → words_in (saved_items choices body) ≤ n + 2 * length choices
saved_few [] body n h = omega (arith, h)
saved_few (Free r ∷ choices) body n h = let m = saved_few choices body n h in omega (arith, m)
saved_few (Own r ∷ choices) body n h = let m = saved_few choices body n h in omega (arith, m)
saved_few (Spill r k ∷ choices) body n h =
    let m = saved_few choices body n h in
    let a = words_append (saved_items choices body) (One (Unscaled Ldur r frame_pointer (slot_offset k)) ∷ []) in
    omega (arith, m, a)

pub body_words : (xs : List Item) (o : Op) (ys : List Operand) (u : ℕ) → words_in (xs ++ body_items o ys u) ≤ words_in xs + 8
body_words xs o ys u = let a = words_append xs (body_items o ys u) in let f = body_few o ys u in omega (arith, a, f)
