-- The items of the nodes that compute values: their instructions are in range, write no register outside of the conventions, and each is followed by
-- the next.
use Rattle.std.proofs.Common.{ℕ, ◌%◌, ◌<◌, zero, suc, Bool, true, false, List, [], ◌∷◌, ◌++◌, refl, arith}
use Rattle.std.specs.Prelude.{◌==◌, if◌then◌else◌, pos, negsuc, ◌≤ℤ◌}
use Rattle.lg_base.specs.HostNames.{host_address}
use Rattle.lg_base.specs.Words.{negated}
use Rattle.lg_base.specs.declared.target.Target.TheVariants.{Riscv64}
use Rattle.lg_op.specs.declared.op.Op.{Op}
use Rattle.lg_op.specs.declared.op.Op.TheVariants as op
use Rattle.lg_op.specs.declared.op.BinaryOp.{BinaryOp}
use Rattle.lg_op.specs.declared.op.BinaryOp.TheVariants as binary
use Rattle.lg_op.specs.declared.op.WideOp.{WideOp}
use Rattle.lg_op.specs.declared.op.WideOp.TheVariants as wide
use Rattle.lg_op.specs.declared.op.UnaryOp.{UnaryOp}
use Rattle.lg_op.specs.declared.op.UnaryOp.TheVariants as unary
use Rattle.lg_op.specs.declared.op.PlainOp.TheVariants as plain
use Rattle.lg_op.specs.declared.operand.Operand.{Operand}
use Rattle.lg_op.specs.declared.operand.Operand.TheVariants as operand
use Rattle.lg_op.specs.Operators.{sets_carry}
use Rattle.lg_rv.specs.Spelling.{IsInstr}
use Rattle.lg_rv.specs.declared.instruction.ImmOp.{ImmOp}
use Rattle.lg_rv.specs.declared.instruction.ImmOp.TheVariants.{Addi, Slti, Sltiu, Xori, Ori, Andi}
use Rattle.lg_temp.specs.Abis.{register_of}
use Rattle.lg_selr_values.proofs.OfProcessor.NumberCodeLemmas.{low-small}
use Rattle.lg_selr_values.proofs.OfProcessor.RegisterLemmas.{register-small}
use Rattle.lg_selr_values.specs.BinaryCode.{register_code, is_addend, loaded_code, zero_or_loaded_code, equal_code, unequal_code, held_code, held_or_loaded_code, number_form_code}
use Rattle.lg_selr_values.specs.CarryCode.{carry_code}
use Rattle.lg_carry.specs.Values.ValueNodes.{extension}
use Rattle.lg_selr_values.specs.UnaryCode.{more_bytes_code, swapped_code, unary_code, retval_code}
use Rattle.lg_selr_values.specs.WideCode.{wide_code}
use Rattle.lg_carry.specs.Values.Parts.{register_for, operand_in}
use Rattle.lg_selr_values.specs.ValueItems.{load_items, binary_items, second_items, carry_items, wide_items, operation_items, register_in, body_items}
use Rattle.lg_selr_values.specs.Processor.Numbers.{low_part, number_code}
use Rattle.lg_rv.specs.declared.instruction.Instr.{Instr}
use Rattle.lg_rv.specs.declared.instruction.Instr.TheVariants.{Imm, Reg}
use Rattle.lg_rv.specs.declared.instruction.RegOp.TheVariants as row
use Rattle.lg_sel.specs.Holes.{Each}
use Rattle.lg_selr_values.specs.Items.{ones}
use Rattle.lg_selr_values.specs.GoodItems.{Fine, AreGood, IsGoodItem}
use Rattle.lg_selr_values.proofs.WithinLemmas.{portable}
use Rattle.lg_selr_values.proofs.GoodLemmas.{good-append, link-fine, carry-fine, number-good, ones-good, items-good}

-- ---- instructions
small-number : (n : ℕ) → n < 2048 → (negsuc 2047 ≤ℤ pos n) × (pos n ≤ℤ pos 2047)
small-number n h = (grind arith, grind (arith, h))

imm-fits : (d a n : ℕ) → d < 32 → a < 32 → n < 2048 → (d < 32) × (a < 32) × (negsuc 2047 ≤ℤ pos n) × (pos n ≤ℤ pos 2047)
imm-fits d a n h k lt = let s = small-number n lt in (h, k, s.0, s.1)

low-fits : (o : ImmOp) (d a v : ℕ) → d < 32 → a < 32 → IsInstr (Imm o d a (low_part v))
low-fits o d a v h k = let s = low-small v in (h, k, s.0, s.1)

pub register-good : (o : BinaryOp) (d a b : ℕ) → Fine d → a < 32 → b < 32 → AreGood (register_code o d a b)
register-good binary.Rsb d a b h k l = (((h.0, l, k), h.1, refl), tt)
register-good binary.Gt d a b h k l = (((h.0, l, k), h.1, refl), tt)
register-good binary.GtU d a b h k l = (((h.0, l, k), h.1, refl), tt)
register-good binary.Le d a b h k l = (((h.0, l, k), h.1, refl), ((imm-fits d d 1 h.0 h.0 (omega arith), h.1, refl), tt))
register-good binary.LeU d a b h k l = (((h.0, l, k), h.1, refl), ((imm-fits d d 1 h.0 h.0 (omega arith), h.1, refl), tt))
register-good binary.Ge d a b h k l = (((h.0, k, l), h.1, refl), ((imm-fits d d 1 h.0 h.0 (omega arith), h.1, refl), tt))
register-good binary.GeU d a b h k l = (((h.0, k, l), h.1, refl), ((imm-fits d d 1 h.0 h.0 (omega arith), h.1, refl), tt))
register-good binary.Eq d a b h k l = (((h.0, k, l), h.1, refl), ((imm-fits d d 1 h.0 h.0 (omega arith), h.1, refl), tt))
register-good binary.Ne d a b h k l = (((h.0, k, l), h.1, refl), (((h.0, omega arith, h.0), h.1, refl), tt))
register-good binary.Addc d a b h k l = tt
register-good binary.Subc d a b h k l = tt
register-good binary.Addx d a b h k l = tt
register-good binary.Subx d a b h k l = tt
register-good o d a b h k l = (((h.0, k, l), h.1, refl), tt)

loaded-good : (o : BinaryOp) (d a v : ℕ) → Fine d → a < 32 → AreGood (loaded_code o d a v)
loaded-good o d a v h k = good-append (number_code 1 v) (register_code o d a 1) (number-good 1 v link-fine) (register-good o d a 1 h k (omega arith))

zero-good : (o : BinaryOp) (d a v : ℕ) → Fine d → a < 32 → AreGood (zero_or_loaded_code o d a v)
zero-good o d a v h k = by (v == 0)
  where
    by : (b : Bool) → AreGood (if b then register_code o d a 0 else loaded_code o d a v)
    by true = register-good o d a 0 h k (omega arith)
    by false = loaded-good o d a v h k

equal-good : (d a v : ℕ) → Fine d → a < 32 → AreGood (equal_code d a v)
equal-good d a v h k = by (v == 0)
  where
    by : (b : Bool) → AreGood (if b then Imm Sltiu d a (pos 1) ∷ [] else Imm Addi d a (low_part (negated v)) ∷ Imm Sltiu d d (pos 1) ∷ [])
    by true = ((imm-fits d a 1 h.0 k (omega arith), h.1, refl), tt)
    by false = ((low-fits Addi d a (negated v) h.0 k, h.1, refl), ((imm-fits d d 1 h.0 h.0 (omega arith), h.1, refl), tt))

unequal-good : (d a v : ℕ) → Fine d → a < 32 → AreGood (unequal_code d a v)
unequal-good d a v h k = by (v == 0)
  where
    by : (b : Bool) → AreGood (if b then Reg row.Sltu d 0 a ∷ [] else Imm Addi d a (low_part (negated v)) ∷ Reg row.Sltu d 0 d ∷ [])
    by true = (((h.0, omega arith, k), h.1, refl), tt)
    by false = ((low-fits Addi d a (negated v) h.0 k, h.1, refl), (((h.0, omega arith, h.0), h.1, refl), tt))

held-good : (o : BinaryOp) (d a v : ℕ) → Fine d → a < 32 → AreGood (held_code o d a v)
held-good binary.Add d a v h k = ((low-fits Addi d a v h.0 k, h.1, refl), tt)
held-good binary.Sub d a v h k = ((low-fits Addi d a (negated v) h.0 k, h.1, refl), tt)
held-good binary.Rsb d a v h k = (((h.0, omega arith, k), h.1, refl), ((low-fits Addi d d v h.0 h.0, h.1, refl), tt))
held-good binary.And d a v h k = ((low-fits Andi d a v h.0 k, h.1, refl), tt)
held-good binary.Or d a v h k = ((low-fits Ori d a v h.0 k, h.1, refl), tt)
held-good binary.Xor d a v h k = ((low-fits Xori d a v h.0 k, h.1, refl), tt)
held-good binary.Lt d a v h k = ((low-fits Slti d a v h.0 k, h.1, refl), tt)
held-good binary.LtU d a v h k = ((low-fits Sltiu d a v h.0 k, h.1, refl), tt)
held-good binary.Ge d a v h k = ((low-fits Slti d a v h.0 k, h.1, refl), ((imm-fits d d 1 h.0 h.0 (omega arith), h.1, refl), tt))
held-good binary.GeU d a v h k = ((low-fits Sltiu d a v h.0 k, h.1, refl), ((imm-fits d d 1 h.0 h.0 (omega arith), h.1, refl), tt))
held-good binary.Eq d a v h k = equal-good d a v h k
held-good binary.Ne d a v h k = unequal-good d a v h k
held-good o d a v h k = tt

either-good : (o : BinaryOp) (d a v : ℕ) → Fine d → a < 32 → AreGood (held_or_loaded_code o d a v)
either-good o d a v h k = by (is_addend v)
  where
    by : (b : Bool) → AreGood (if b then held_code o d a v else loaded_code o d a v)
    by true = held-good o d a v h k
    by false = loaded-good o d a v h k

shift-number : (v : ℕ) → v % 64 < 64
shift-number v = omega arith

form-good : (o : BinaryOp) (d a v : ℕ) → Fine d → a < 32 → AreGood (number_form_code o d a v)
form-good binary.Add d a v h k = either-good binary.Add d a v h k
form-good binary.Sub d a v h k = either-good binary.Sub d a v h k
form-good binary.Rsb d a v h k = either-good binary.Rsb d a v h k
form-good binary.And d a v h k = either-good binary.And d a v h k
form-good binary.Or d a v h k = either-good binary.Or d a v h k
form-good binary.Xor d a v h k = either-good binary.Xor d a v h k
form-good binary.Lt d a v h k = either-good binary.Lt d a v h k
form-good binary.LtU d a v h k = either-good binary.LtU d a v h k
form-good binary.Ge d a v h k = either-good binary.Ge d a v h k
form-good binary.GeU d a v h k = either-good binary.GeU d a v h k
form-good binary.Eq d a v h k = either-good binary.Eq d a v h k
form-good binary.Ne d a v h k = either-good binary.Ne d a v h k
form-good binary.Lsh d a v h k = (((h.0, k, shift-number v, λ e. absurd (omega (arith, e))), h.1, refl), tt)
form-good binary.Rsh d a v h k = (((h.0, k, shift-number v, λ e. absurd (omega (arith, e))), h.1, refl), tt)
form-good binary.RshU d a v h k = (((h.0, k, shift-number v, λ e. absurd (omega (arith, e))), h.1, refl), tt)
form-good binary.Le d a v h k = zero-good binary.Le d a v h k
form-good binary.LeU d a v h k = zero-good binary.LeU d a v h k
form-good binary.Gt d a v h k = zero-good binary.Gt d a v h k
form-good binary.GtU d a v h k = zero-good binary.GtU d a v h k
form-good o d a v h k = loaded-good o d a v h k

more-bytes-good : (d n : ℕ) → Fine d → AreGood (more_bytes_code d n)
more-bytes-good d zero h = tt
more-bytes-good d (suc n) h = (
  ((omega arith, omega arith, omega arith, λ e. absurd (omega (arith, e))), refl, refl),
  (
    (imm-fits 31 1 255 (omega arith) (omega arith) (omega arith), refl, refl),
    (((h.0, h.0, omega arith, λ e. absurd (omega (arith, e))), h.1, refl), (((h.0, h.0, omega arith), h.1, refl), more-bytes-good d n h)),
  ),
)

swapped-good : (d a n : ℕ) → Fine d → a < 32 → AreGood (swapped_code d a n)
swapped-good d a n h k =
    ((imm-fits 1 a 0 (omega arith) k (omega arith), refl, refl), ((imm-fits d 1 255 h.0 (omega arith) (omega arith), h.1, refl), more-bytes-good d n h))

pub unary-good : (o : UnaryOp) (d a : ℕ) → Fine d → a < 32 → AreGood (unary_code o d a)
unary-good unary.Neg d a h k = (((h.0, omega arith, k), h.1, refl), tt)
unary-good unary.Com d a h k = (((h.0, k, grind arith, grind arith), h.1, refl), tt)
unary-good unary.Mov d a h k = ((imm-fits d a 0 h.0 k (omega arith), h.1, refl), tt)
unary-good unary.ExtrUc d a h k = ((imm-fits d a 255 h.0 k (omega arith), h.1, refl), tt)
unary-good unary.ExtrI d a h k = ((imm-fits d a 0 h.0 k (omega arith), h.1, refl), tt)
unary-good unary.HtonrUs d a h k = swapped-good d a 1 h k
unary-good unary.HtonrUi d a h k = swapped-good d a 3 h k
unary-good unary.HtonrUl d a h k = swapped-good d a 7 h k
unary-good o d a h k = (((h.0, k, omega arith, λ e. absurd (omega (arith, e))), h.1, refl), (((h.0, h.0, omega arith, λ e. absurd (omega (arith, e))), h.1, refl), tt))

carried-good : (o : BinaryOp) (u d a : ℕ) → Fine u → Fine d → a < 32 → AreGood (carry_code o u d a)
carried-good binary.Addc u d a g h k = (((h.0, k, omega arith), h.1, refl), (((omega arith, h.0, omega arith), refl, refl), tt))
carried-good binary.Subc u d a g h k = (((omega arith, k, omega arith), refl, refl), (((h.0, k, omega arith), h.1, refl), tt))
carried-good binary.Addx u d a g h k = (
  ((g.0, k, omega arith), g.1, refl),
  (
    ((omega arith, g.0, omega arith), refl, refl),
    (
      ((h.0, g.0, omega arith), h.1, refl),
      (((omega arith, h.0, omega arith), refl, refl), (((omega arith, omega arith, omega arith), refl, refl), tt)),
    ),
  ),
)
carried-good binary.Subx u d a g h k = (
  ((g.0, k, omega arith), g.1, refl),
  (
    ((omega arith, k, omega arith), refl, refl),
    (
      ((h.0, omega arith, omega arith), h.1, refl),
      (((omega arith, omega arith, omega arith), refl, refl), (((omega arith, omega arith, g.0), refl, refl), tt)),
    ),
  ),
)
carried-good o u d a g h k = tt

wide-good : (o : WideOp) (d e a b : ℕ) → Fine d → Fine e → a < 32 → b < 32 → AreGood (wide_code o d e a b)
wide-good wide.Mul d e a b h i k l = (((omega arith, k, l), refl, refl), (((h.0, k, l), h.1, refl), ((imm-fits e 1 0 i.0 (omega arith) (omega arith), i.1, refl), tt)))
wide-good wide.MulU d e a b h i k l = (((omega arith, k, l), refl, refl), (((h.0, k, l), h.1, refl), ((imm-fits e 1 0 i.0 (omega arith) (omega arith), i.1, refl), tt)))
wide-good wide.Div d e a b h i k l = (((omega arith, k, l), refl, refl), (((i.0, k, l), i.1, refl), ((imm-fits d 1 0 h.0 (omega arith) (omega arith), h.1, refl), tt)))
wide-good wide.DivU d e a b h i k l = (((omega arith, k, l), refl, refl), (((i.0, k, l), i.1, refl), ((imm-fits d 1 0 h.0 (omega arith) (omega arith), h.1, refl), tt)))

-- ---- items
load-good : (t : ℕ) (x : Operand) → Fine t → Each IsGoodItem (load_items t x)
load-good t (operand.Number v) h = ones-good (number_code t v) (number-good t v h)
load-good t (operand.Host name) h = ones-good (number_code t (host_address name)) (number-good t (host_address name) h)
load-good t (operand.Label l) h = (h, tt)
load-good t (operand.Reg r) h = tt
load-good t (operand.Slot k) h = tt

second-good : (x : Operand) → Each IsGoodItem (second_items x)
second-good (operand.Reg r) = ((imm-fits 1 (register_of Riscv64 r) 0 (omega arith) (register-small r) (omega arith), refl, refl), tt)
second-good (operand.Number v) = load-good 1 (operand.Number v) link-fine
second-good (operand.Host name) = load-good 1 (operand.Host name) link-fine
second-good (operand.Label l) = load-good 1 (operand.Label l) link-fine
second-good (operand.Slot k) = load-good 1 (operand.Slot k) link-fine

-- code after a word that is loaded
after-good : (t : ℕ) (x : Operand) (is : List Instr) → Fine t → AreGood is → Each IsGoodItem (load_items t x ++ ones is)
after-good t x is h k = items-good (load_items t x) (ones is) (load-good t x h) (ones-good is k)

binary-good : (o : BinaryOp) (d a : ℕ) (x : Operand) → Fine d → a < 32 → Each IsGoodItem (binary_items o d a x)
binary-good o d a (operand.Reg r) h k = ones-good (register_code o d a (register_of Riscv64 r)) (register-good o d a (register_of Riscv64 r) h k (register-small r))
binary-good o d a (operand.Number v) h k = ones-good (number_form_code o d a v) (form-good o d a v h k)
binary-good o d a (operand.Host name) h k = after-good 1 (operand.Host name) (register_code o d a 1) link-fine (register-good o d a 1 h k (omega arith))
binary-good o d a (operand.Label l) h k = after-good 1 (operand.Label l) (register_code o d a 1) link-fine (register-good o d a 1 h k (omega arith))
binary-good o d a (operand.Slot j) h k = after-good 1 (operand.Slot j) (register_code o d a 1) link-fine (register-good o d a 1 h k (omega arith))

wide-items-good : (o : WideOp) (d e a : ℕ) (x : Operand) → Fine d → Fine e → a < 32 → Each IsGoodItem (wide_items o d e a x)
wide-items-good o d e a (operand.Reg r) h i k = ones-good (wide_code o d e a (register_of Riscv64 r)) (wide-good o d e a (register_of Riscv64 r) h i k (register-small r))
wide-items-good o d e a (operand.Number v) h i k = after-good 31 (operand.Number v) (wide_code o d e a 31) carry-fine (wide-good o d e a 31 h i k (omega arith))
wide-items-good o d e a (operand.Host name) h i k = after-good 31 (operand.Host name) (wide_code o d e a 31) carry-fine (wide-good o d e a 31 h i k (omega arith))
wide-items-good o d e a (operand.Label l) h i k = after-good 31 (operand.Label l) (wide_code o d e a 31) carry-fine (wide-good o d e a 31 h i k (omega arith))
wide-items-good o d e a (operand.Slot j) h i k = after-good 31 (operand.Slot j) (wide_code o d e a 31) carry-fine (wide-good o d e a 31 h i k (omega arith))

operation-good : (o : BinaryOp) (u d a : ℕ) (x : Operand) → Fine u → Fine d → a < 32 → Each IsGoodItem (operation_items o u d a x)
operation-good o u d a x g h k = by (sets_carry o)
  where
    by : (b : Bool) → Each IsGoodItem (if b then carry_items o u d a x else binary_items o d a x)
    by true = items-good (second_items x) (ones (carry_code o u d a)) (second-good x) (ones-good (carry_code o u d a) (carried-good o u d a g h k))
    by false = binary-good o d a x h k

register-fine : (x : Operand) → Fine (register_for Riscv64 x)
register-fine (operand.Reg r) = (register-small r, portable r)
register-fine x = (omega arith, refl)

fine-at : (xs : List Operand) (i : ℕ) → Fine (register_in xs i)
fine-at xs i = register-fine (operand_in xs i)

pub body-good : (o : Op) (xs : List Operand) (u : ℕ) → Fine u → Each IsGoodItem (body_items o xs u)
body-good (op.Binary o last) xs u h = operation-good o u (register_in xs 0) (register_in xs 1) (operand_in xs 2) h (fine-at xs 0) (fine-at xs 1).0
body-good (op.Wide o last) xs u h = wide-items-good o (register_in xs 0) (register_in xs 1) (register_in xs 2) (operand_in xs 3) (fine-at xs 0) (fine-at xs 1) (fine-at xs 2).0
body-good (op.Unary o) xs u h = ones-good (unary_code o (register_in xs 0) (register_in xs 1)) (unary-good o (register_in xs 0) (register_in xs 1) (fine-at xs 0) (fine-at xs 1).0)
body-good (op.Plain plain.Movi) xs u h = load-good (register_in xs 0) (operand_in xs 1) (fine-at xs 0)
body-good (op.Plain plain.VaStart) xs u h = load-good (register_in xs 0) (operand_in xs 1) (fine-at xs 0)
body-good (op.Plain o) xs u h = tt
body-good (op.Retval t) xs u h = ones-good (retval_code t (register_in xs 0)) (unary-good (extension t) (register_in xs 0) 10 (fine-at xs 0) (omega arith))
body-good o xs u h = tt
