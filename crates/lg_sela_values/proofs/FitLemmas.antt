-- The items of the nodes that compute values: their instructions are in range, write no register outside of the conventions, and each is followed by
-- the next.
use Rattle.std.proofs.Common.{◌≡◌, ℕ, ◌<◌, Bool, true, false, List, [], ◌∷◌, ◌++◌, refl, arith}
use Rattle.std.specs.Prelude.{◌==◌, if◌then◌else◌}
use Rattle.lg_base.specs.HostNames.{host_address}
use Rattle.lg_base.specs.Words.{negated}
use Rattle.lg_base.specs.declared.target.Target.TheVariants.{Aarch64}
use Rattle.lg_op.specs.declared.op.Op.{Op}
use Rattle.lg_op.specs.declared.op.Op.TheVariants as op
use Rattle.lg_op.specs.declared.op.BinaryOp.{BinaryOp}
use Rattle.lg_op.specs.declared.op.BinaryOp.TheVariants as binary
use Rattle.lg_op.specs.declared.op.WideOp.{WideOp}
use Rattle.lg_op.specs.declared.op.WideOp.TheVariants as wide
use Rattle.lg_op.specs.declared.op.UnaryOp.{UnaryOp}
use Rattle.lg_op.specs.declared.op.UnaryOp.TheVariants as unary
use Rattle.lg_op.specs.declared.op.PlainOp.TheVariants as plain
use Rattle.lg_op.specs.declared.operand.Operand.{Operand}
use Rattle.lg_op.specs.declared.operand.Operand.TheVariants as operand
use Rattle.lg_a64.specs.declared.instruction.Instr.{Instr}
use Rattle.lg_a64.specs.declared.instruction.Instr.TheVariants.{Reg, MulAdd}
use Rattle.lg_a64.specs.declared.instruction.MulAddOp.TheVariants.{Madd, Msub}
use Rattle.lg_a64.specs.declared.instruction.RegOp.{RegOp}
use Rattle.lg_a64.specs.declared.instruction.RegOp.TheVariants as row
use Rattle.lg_temp.specs.Abis.{register_of}
use Rattle.lg_sela_values.specs.Processor.A64Rows.{link}
use Rattle.lg_sela_values.specs.Processor.Numbers.{number_code}
use Rattle.lg_sela_values.proofs.OfProcessor.RegisterLemmas.{register-small}
use Rattle.lg_sel.specs.Holes.{Each}
use Rattle.lg_sela_values.specs.Items.{ones}
use Rattle.lg_sela_values.specs.GoodItems.{Fine, AreGood, IsGoodItem}
use Rattle.lg_sela_values.proofs.WithinLemmas.{portable, flagged, of-row}
use Rattle.lg_sela_values.proofs.GoodLemmas.{good-append, link-fine, number-good, ones-good, items-good}
use Rattle.lg_sela_values.specs.BinaryCode.{register_code, second_register, loaded_code, is_small, takes_small, small_code, takes_negative, negative_code, negative_form_code, small_form_code, is_mask, mask_code, mask_form_code, number_form_code}
use Rattle.lg_sela_values.proofs.NumberFormLemmas.{mask-of}
use Rattle.lg_carry.specs.Values.ValueNodes.{extension}
use Rattle.lg_sela_values.specs.UnaryCode.{unary_code, retval_code}
use Rattle.lg_sela_values.specs.WideCode.{product_by_link, quotient_by_link, wide_code, wide_by_link}
use Rattle.lg_carry.specs.Values.Parts.{register_for, operand_in}
use Rattle.lg_sela_values.specs.ValueItems.{load_items, binary_items, wide_items, register_in, body_items}

-- ---- two registers
register-good : (o : BinaryOp) (d a b : ℕ) → Fine d → a < 32 → b < 32 → AreGood (register_code o d a b)
register-good binary.Add d a b h k l = (((h.0, k, l), h.1, refl), tt)
register-good binary.Sub d a b h k l = (((h.0, k, l), h.1, refl), tt)
register-good binary.Rsb d a b h k l = (((h.0, l, k), h.1, refl), tt)
register-good binary.Mul d a b h k l = (((h.0, k, l, omega arith), h.1, refl), tt)
register-good binary.And d a b h k l = (((h.0, k, l), h.1, refl), tt)
register-good binary.Or d a b h k l = (((h.0, k, l), h.1, refl), tt)
register-good binary.Xor d a b h k l = (((h.0, k, l), h.1, refl), tt)
register-good binary.Lsh d a b h k l = (((h.0, k, l), h.1, refl), tt)
register-good binary.Rsh d a b h k l = (((h.0, k, l), h.1, refl), tt)
register-good binary.RshU d a b h k l = (((h.0, k, l), h.1, refl), tt)
register-good binary.Div d a b h k l = (((h.0, k, l), h.1, refl), tt)
register-good binary.DivU d a b h k l = (((h.0, k, l), h.1, refl), tt)
register-good binary.Rem d a b h k l = (((omega arith, k, l), refl, refl), (((h.0, omega arith, l, k), h.1, refl), tt))
register-good binary.RemU d a b h k l = (((omega arith, k, l), refl, refl), (((h.0, omega arith, l, k), h.1, refl), tt))
register-good binary.Addc d a b h k l = (((h.0, k, l), flagged d h.1, refl), tt)
register-good binary.Subc d a b h k l = (((h.0, k, l), flagged d h.1, refl), tt)
register-good binary.Addx d a b h k l = (((h.0, k, l), h.1, refl), tt)
register-good binary.Subx d a b h k l = (((h.0, k, l), h.1, refl), tt)
register-good o d a b h k l = (((omega arith, k, l), tt, refl), (((h.0, omega arith, omega arith), h.1, refl), tt))

-- ---- a register and a number
second-fine : (o : BinaryOp) (u : ℕ) → Fine u → Fine (second_register o u)
second-fine binary.Rem u h = h
second-fine binary.RemU u h = h
second-fine o u h = link-fine

loaded-good : (o : BinaryOp) (u d a v : ℕ) → Fine u → Fine d → a < 32 → AreGood (loaded_code o u d a v)
loaded-good o u d a v g h k =
    let t = second_register o u in
    let f = second-fine o u g in
    good-append (number_code t v) (register_code o d a t) (number-good t v f) (register-good o d a t h k f.0)

few : (v : ℕ) → is_small v ≡ true → v < 4096
few v h = grind (arith, h)

small-good : (o : BinaryOp) (d a v : ℕ) → Fine d → a < 32 → v < 4096 → AreGood (small_code o d a v)
small-good binary.Add d a v h k l = (((h.0, k, l), h.1, refl), tt)
small-good binary.Sub d a v h k l = (((h.0, k, l), h.1, refl), tt)
small-good binary.Addc d a v h k l = (((h.0, k, l), flagged d h.1, refl), tt)
small-good binary.Subc d a v h k l = (((h.0, k, l), flagged d h.1, refl), tt)
small-good o d a v h k l = (((omega arith, k, l), tt, refl), (((h.0, omega arith, omega arith), h.1, refl), tt))

negative-good : (o : BinaryOp) (d a v : ℕ) → Fine d → a < 32 → negated v < 4096 → AreGood (negative_code o d a v)
negative-good binary.Add d a v h k l = (((h.0, k, l), h.1, refl), tt)
negative-good o d a v h k l = (((h.0, k, l), h.1, refl), tt)

module _ (o : BinaryOp) (u d a v : ℕ) (g : Fine u) (h : Fine d) (k : a < 32) where
  negative-form-good : AreGood (negative_form_code o u d a v)
  negative-form-good = by (takes_negative o) (is_small (negated v)) refl
    where
      by : (b c : Bool) → is_small (negated v) ≡ c → AreGood (if b then (if c then negative_code o d a v else loaded_code o u d a v) else loaded_code o u d a v)
      by true true e = negative-good o d a v h k (few (negated v) e)
      by true false e = loaded-good o u d a v g h k
      by false c e = loaded-good o u d a v g h k

  small-form-good : AreGood (small_form_code o u d a v)
  small-form-good = by (takes_small o) (is_small v) refl
    where
      by : (b c : Bool) → is_small v ≡ c → AreGood (if b then (if c then small_code o d a v else negative_form_code o u d a v) else loaded_code o u d a v)
      by true true e = small-good o d a v h k (few v e)
      by true false e = negative-form-good
      by false c e = loaded-good o u d a v g h k

mask-form-good : (u d a v : ℕ) → Fine u → Fine d → a < 32 → AreGood (mask_form_code u d a v)
mask-form-good u d a v g h k = by (is_mask v) refl
  where
    by : (b : Bool) → is_mask v ≡ b → AreGood (if b then mask_code d a v else loaded_code binary.And u d a v)
    by true e = let m = mask-of v e in let less = m.1 in (((h.0, k, omega arith, omega (arith, less)), h.1, refl), tt)
    by false e = loaded-good binary.And u d a v g h k

form-good : (o : BinaryOp) (u d a v : ℕ) → Fine u → Fine d → a < 32 → AreGood (number_form_code o u d a v)
form-good binary.Lsh u d a v g h k = (((h.0, k, omega arith, omega arith), h.1, refl), tt)
form-good binary.Rsh u d a v g h k = (((h.0, k, omega arith, omega arith), h.1, refl), tt)
form-good binary.RshU u d a v g h k = (((h.0, k, omega arith, omega arith), h.1, refl), tt)
form-good binary.And u d a v g h k = mask-form-good u d a v g h k
form-good o u d a v g h k = small-form-good o u d a v g h k

-- ---- one register
pub unary-good : (o : UnaryOp) (d a : ℕ) → Fine d → a < 32 → AreGood (unary_code o d a)
unary-good unary.Neg d a h k = (((h.0, omega arith, k), h.1, refl), tt)
unary-good unary.Com d a h k = (((h.0, omega arith, k), h.1, refl), tt)
unary-good unary.Mov d a h k = (((h.0, omega arith, k), h.1, refl), tt)
unary-good unary.HtonrUs d a h k = (((h.0, k), h.1, refl), (((h.0, h.0, omega arith, omega arith), h.1, refl), tt))
unary-good unary.HtonrUi d a h k = (((h.0, k), h.1, refl), (((h.0, h.0, omega arith, omega arith), h.1, refl), tt))
unary-good unary.HtonrUl d a h k = (((h.0, k), h.1, refl), tt)
unary-good o d a h k = (((h.0, k, omega arith, omega arith), h.1, refl), tt)

-- ---- two results
product-good : (high : RegOp) (d e a b : ℕ) → Fine d → Fine e → a < 32 → b < 32 → AreGood (MulAdd Madd 30 a b 31 ∷ Reg high e a b ∷ Reg row.Orr d 31 30 ∷ [])
product-good high d e a b h i k l = (((omega arith, k, l, omega arith), refl, refl), (((i.0, k, l), of-row high e i.1, refl), (((h.0, omega arith, omega arith), h.1, refl), tt)))

quotient-good : (divide : RegOp) (d e a b : ℕ) → Fine d → Fine e → a < 32 → b < 32 → AreGood (Reg divide 30 a b ∷ MulAdd Msub e 30 b a ∷ Reg row.Orr d 31 30 ∷ [])
quotient-good divide d e a b h i k l = (((omega arith, k, l), of-row divide 30 refl, refl), (((i.0, omega arith, l, k), i.1, refl), (((h.0, omega arith, omega arith), h.1, refl), tt)))

wide-good : (o : WideOp) (d e a b : ℕ) → Fine d → Fine e → a < 32 → b < 32 → AreGood (wide_code o d e a b)
wide-good wide.Mul d e a b h i k l = product-good row.Smulh d e a b h i k l
wide-good wide.MulU d e a b h i k l = product-good row.Umulh d e a b h i k l
wide-good wide.Div d e a b h i k l = quotient-good row.Sdiv d e a b h i k l
wide-good wide.DivU d e a b h i k l = quotient-good row.Udiv d e a b h i k l

product-link-good : (high : RegOp) (d e a : ℕ) → Fine d → Fine e → a < 32 → AreGood (product_by_link high d e a)
product-link-good high d e a h i k = by (e == a)
  where
    by : (b : Bool) → AreGood (if b then MulAdd Madd d a 30 31 ∷ Reg high e a 30 ∷ [] else Reg high e a 30 ∷ MulAdd Madd d a 30 31 ∷ [])
    by true = (((h.0, k, omega arith, omega arith), h.1, refl), (((i.0, k, omega arith), of-row high e i.1, refl), tt))
    by false = (((i.0, k, omega arith), of-row high e i.1, refl), (((h.0, k, omega arith, omega arith), h.1, refl), tt))

quotient-link-good : (divide : RegOp) (d e a : ℕ) → Fine d → Fine e → a < 32 → AreGood (quotient_by_link divide d e a)
quotient-link-good divide d e a h i k = by (e == a)
  where
    by : (b : Bool) → AreGood (if b then Reg divide d a 30 ∷ MulAdd Msub e d 30 a ∷ [] else Reg divide e a 30 ∷ MulAdd Msub 30 e 30 a ∷ Reg row.Orr d 31 e ∷ Reg row.Orr e 31 30 ∷ [])
    by true = (((h.0, k, omega arith), of-row divide d h.1, refl), (((i.0, h.0, omega arith, k), i.1, refl), tt))
    by false = (
      ((i.0, k, omega arith), of-row divide e i.1, refl),
      (
        ((omega arith, i.0, omega arith, k), refl, refl),
        (((h.0, omega arith, i.0), h.1, refl), (((i.0, omega arith, omega arith), i.1, refl), tt)),
      ),
    )

link-good : (o : WideOp) (d e a : ℕ) → Fine d → Fine e → a < 32 → AreGood (wide_by_link o d e a)
link-good wide.Mul d e a h i k = product-link-good row.Smulh d e a h i k
link-good wide.MulU d e a h i k = product-link-good row.Umulh d e a h i k
link-good wide.Div d e a h i k = quotient-link-good row.Sdiv d e a h i k
link-good wide.DivU d e a h i k = quotient-link-good row.Udiv d e a h i k

-- ---- items
load-good : (t : ℕ) (x : Operand) → Fine t → Each IsGoodItem (load_items t x)
load-good t (operand.Number v) h = ones-good (number_code t v) (number-good t v h)
load-good t (operand.Host name) h = ones-good (number_code t (host_address name)) (number-good t (host_address name) h)
load-good t (operand.Label l) h = (h, tt)
load-good t (operand.Reg r) h = tt
load-good t (operand.Slot k) h = tt

-- code after a word that is loaded
after-good : (t : ℕ) (x : Operand) (is : List Instr) → Fine t → AreGood is → Each IsGoodItem (load_items t x ++ ones is)
after-good t x is h k = items-good (load_items t x) (ones is) (load-good t x h) (ones-good is k)

second-good : (o : BinaryOp) (u d a : ℕ) (x : Operand) → Fine u → Fine d → a < 32 → Each IsGoodItem (load_items (second_register o u) x ++ ones (register_code o d a (second_register o u)))
second-good o u d a x g h k =
    let t = second_register o u in
    let f = second-fine o u g in
    after-good t x (register_code o d a t) f (register-good o d a t h k f.0)

binary-good : (o : BinaryOp) (u d a : ℕ) (x : Operand) → Fine u → Fine d → a < 32 → Each IsGoodItem (binary_items o u d a x)
binary-good o u d a (operand.Reg r) g h k = let l = register-small r in ones-good (register_code o d a (register_of Aarch64 r)) (register-good o d a (register_of Aarch64 r) h k (omega (arith, l)))
binary-good o u d a (operand.Number v) g h k = ones-good (number_form_code o u d a v) (form-good o u d a v g h k)
binary-good o u d a (operand.Host name) g h k = second-good o u d a (operand.Host name) g h k
binary-good o u d a (operand.Label l) g h k = second-good o u d a (operand.Label l) g h k
binary-good o u d a (operand.Slot j) g h k = second-good o u d a (operand.Slot j) g h k

wide-items-good : (o : WideOp) (d e a : ℕ) (x : Operand) → Fine d → Fine e → a < 32 → Each IsGoodItem (wide_items o d e a x)
wide-items-good o d e a (operand.Reg r) h i k = let l = register-small r in ones-good (wide_code o d e a (register_of Aarch64 r)) (wide-good o d e a (register_of Aarch64 r) h i k (omega (arith, l)))
wide-items-good o d e a (operand.Number v) h i k = after-good link (operand.Number v) (wide_by_link o d e a) link-fine (link-good o d e a h i k)
wide-items-good o d e a (operand.Host name) h i k = after-good link (operand.Host name) (wide_by_link o d e a) link-fine (link-good o d e a h i k)
wide-items-good o d e a (operand.Label l) h i k = after-good link (operand.Label l) (wide_by_link o d e a) link-fine (link-good o d e a h i k)
wide-items-good o d e a (operand.Slot j) h i k = after-good link (operand.Slot j) (wide_by_link o d e a) link-fine (link-good o d e a h i k)

register-fine : (x : Operand) → Fine (register_for Aarch64 x)
register-fine (operand.Reg r) = let l = register-small r in (omega (arith, l), portable r)
register-fine (operand.Number v) = (omega arith, refl)
register-fine x = (omega arith, refl)

fine-at : (xs : List Operand) (i : ℕ) → Fine (register_in xs i)
fine-at xs i = register-fine (operand_in xs i)

pub body-good : (o : Op) (xs : List Operand) (u : ℕ) → Fine u → Each IsGoodItem (body_items o xs u)
body-good (op.Binary o last) xs u h = binary-good o u (register_in xs 0) (register_in xs 1) (operand_in xs 2) h (fine-at xs 0) (fine-at xs 1).0
body-good (op.Wide o last) xs u h = wide-items-good o (register_in xs 0) (register_in xs 1) (register_in xs 2) (operand_in xs 3) (fine-at xs 0) (fine-at xs 1) (fine-at xs 2).0
body-good (op.Unary o) xs u h = ones-good (unary_code o (register_in xs 0) (register_in xs 1)) (unary-good o (register_in xs 0) (register_in xs 1) (fine-at xs 0) (fine-at xs 1).0)
body-good (op.Plain plain.Movi) xs u h = load-good (register_in xs 0) (operand_in xs 1) (fine-at xs 0)
body-good (op.Plain plain.VaStart) xs u h = load-good (register_in xs 0) (operand_in xs 1) (fine-at xs 0)
body-good (op.Plain o) xs u h = tt
body-good (op.Retval t) xs u h = ones-good (retval_code t (register_in xs 0)) (unary-good (extension t) (register_in xs 0) 0 (fine-at xs 0) (omega arith))
body-good o xs u h = tt
