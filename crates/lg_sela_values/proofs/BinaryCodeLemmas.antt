-- What the code of the operations on two words computes.
use Rattle.std.proofs.Common.{◌≡◌, ◌≢◌, ℕ, ◌+◌, ◌*◌, ◌%◌, ◌^◌, ◌<◌, Bool, true, false, Some, refl, sym, ap, ◌∙◌, arith}
use Rattle.std.specs.Prelude.{◌==◌, ◌||◌, not, if◌then◌else◌, ⊤}
use Rattle.lg_base.specs.Flags.{carry_of, carry_flag}
use Rattle.lg_base.specs.Words.{add_words, mul_words, sub_words, quotient, quotient_signed, remainder, remainder_signed, is_less, is_less_signed, word_of_test, shifted_left, shifted_right, shifted_right_signed, carry_out, borrow_out}
use Rattle.lg_base.specs.declared.target.Target.TheVariants.{Aarch64}
use Rattle.lg_op.specs.declared.op.BinaryOp.{BinaryOp}
use Rattle.lg_op.specs.declared.op.BinaryOp.TheVariants as binary
use Rattle.lg_op.specs.Operators.{binary_value, sets_carry, divides, is_least_by_minus_one, word_where, carry_in, value_with_carry}
use Rattle.lg_op.specs.declared.carry.Carry.{Carry}
use Rattle.lg_op.specs.declared.carry.Carry.TheVariants as carry
use Rattle.lg_meaning.specs.Steps.{bit_word}
use Rattle.lg_a64.specs.declared.instruction.RegOp.TheVariants as row
use Rattle.lg_a64.specs.declared.instruction.Cond.{Cond}
use Rattle.lg_cpu.specs.HostSteps.{put}
use Rattle.lg_cpu.specs.A64Operators.{reg_value, divided, divided_signed, difference_flags, sum_flags, csinc_value, condition_holds, sum_of, difference_of, carry_word, borrow_word}
use Rattle.lg_cpu.specs.A64Step.{read, write}
use Rattle.lg_carry.specs.Registers.{HoldsCarry}
use Rattle.lg_carry.specs.Values.Computers.{Held}
use Rattle.lg_carry.specs.Values.Values.{HoldsWithCarry}
use Rattle.lg_sela_values.specs.Processor.Computations.{carry_or_false, known, all_compute, computed}
use Rattle.lg_sela_values.proofs.OfProcessor.HeldLemmas.{read-is, write-is, put-same, put-other}
use Rattle.lg_sela_values.specs.BinaryCode.{failing, register_code}
use Rattle.lg_sela_values.proofs.DivisionLemmas.{left-over, left-over-signed}
use Rattle.lg_sela_values.proofs.FlagLemmas.{holds-lt, holds-ge, holds-gt, holds-le, holds-cc, holds-cs, holds-hi, holds-ls, holds-eq, holds-ne, test-word, test-word-not, difference-same}

-- ---- registers
pub write-other : (w : ℕ → ℕ) (t x r : ℕ) → r ≢ t → write w t x r ≡ w r
write-other w t x r ne = by (t == 31)
  where
    by : (b : Bool) → (if b then w r else put w t x r) ≡ w r
    by true = refl
    by false = put-other w t x r ne

pub write-same : (w : ℕ → ℕ) (t x : ℕ) → t < 31 → write w t x t ≡ x
write-same w t x lt = ap (λ g. g t) (write-is w t x lt) ∙ put-same w t x

-- ---- where a value is given
pub some-same : {A : Type 0} (x y : A) → Some x ≡ Some y → x ≡ y
some-same x y e = cc

pub given-where : (b : Bool) (n z : ℕ) → word_where b n ≡ Some z → (b ≡ true) × (n ≡ z)
given-where true n z e = (refl, some-same n z e)
given-where false n z e = cc

pub otherwise : (b : Bool) (x y z : ℕ) → b ≡ false → y ≡ z → (if b then x else y) ≡ z
otherwise true x y z h e = cc
otherwise false x y z h e = e

pub no-zero : (b c : Bool) → not (b || c) ≡ true → b ≡ false
no-zero true c e = cc
no-zero false c e = refl

pub not-true : (b : Bool) → not b ≡ true → b ≡ false
not-true true e = cc
not-true false e = refl

pub add-none : (n : ℕ) → add_words 0 (n % 2 ^ 64) ≡ n % 2 ^ 64
add-none n = omega arith

-- a remainder keeps its quotient in the link while it reads the second word
abbrev pub IsApartFor : BinaryOp → ℕ → Type 0
IsApartFor binary.Rem b = b ≢ 30
IsApartFor binary.RemU b = b ≢ 30
IsApartFor o b = ⊤

module _ (d a b : ℕ) (dl : d < 31) (al : a < 30) (bl : b < 31) (w : Held) (xs : w.registers a < 2 ^ 64) (ys : w.registers b < 2 ^ 64) where
  abbrev x : ℕ
  x = w.registers a

  abbrev y : ℕ
  y = w.registers b

  -- one instruction that makes a word of the two
  made : (f : ℕ → ℕ → ℕ) (z : ℕ) → f x y ≡ z → write w.registers d (f (read w.registers a) (read w.registers b)) d ≡ z
  made f z e = write-same w.registers d (f (read w.registers a) (read w.registers b)) dl ∙ (λ i. f (read-is w.registers a (omega (arith, al)) i) (read-is w.registers b bl i)) ∙ e

  -- a comparison, and a choice
  tested : (c : Cond) (t : Bool) → csinc_value (condition_holds c (difference_flags x y 0)) 0 0 ≡ word_of_test t → write w.registers d (csinc_value (condition_holds c (difference_flags (read w.registers a) (read w.registers b) 0)) 0 0) d ≡ word_of_test t
  tested c t e = made (λ p q. csinc_value (condition_holds c (difference_flags p q 0)) 0 0) (word_of_test t) e

  -- a quotient in the link, and what is left
  left : (divide : ℕ → ℕ → ℕ) (z : ℕ) → b ≢ 30 → sub_words x (mul_words (divide x y) y) ≡ z
      → (let v = write w.registers 30 (divide (read w.registers a) (read w.registers b)) in write v d (sub_words (read v a) (mul_words (read v 30) (read v b))) d) ≡ z
  left divide z apart e =
      let v = write w.registers 30 (divide (read w.registers a) (read w.registers b)) in
      let q : read v 30 ≡ divide x y = made-link in
      let va : read v a ≡ x = read-is v a (omega (arith, al)) ∙ write-other w.registers 30 (divide (read w.registers a) (read w.registers b)) a (λ z. absurd (omega (arith, al, z))) in
      let vb : read v b ≡ y = read-is v b bl ∙ write-other w.registers 30 (divide (read w.registers a) (read w.registers b)) b apart in
      write-same v d (sub_words (read v a) (mul_words (read v 30) (read v b))) dl ∙ (λ i. sub_words (va i) (mul_words (q i) (vb i))) ∙ e
    where
      made-link : read (write w.registers 30 (divide (read w.registers a) (read w.registers b))) 30 ≡ divide x y
      made-link = (λ i. divide (read-is w.registers a (omega (arith, al)) i) (read-is w.registers b bl i))

  pub register-value : (o : BinaryOp) (z : ℕ) → sets_carry o ≡ false → IsApartFor o b → binary_value o x y ≡ Some z → (computed (register_code o d a b) w).registers d ≡ z
  register-value binary.Add z h p e = made add_words z (some-same _ z e)
  register-value binary.Sub z h p e = made sub_words z (some-same _ z e)
  register-value binary.Rsb z h p e = made (λ m n. sub_words n m) z (some-same _ z e)
  register-value binary.Mul z h p e = made (λ m n. add_words 0 (mul_words m n)) z (add-none (x * y) ∙ some-same _ z e)
  register-value binary.And z h p e = made (λ m n. reg_value row.And (known w.flags) m n) z (some-same _ z e)
  register-value binary.Or z h p e = made (λ m n. reg_value row.Orr (known w.flags) m n) z (some-same _ z e)
  register-value binary.Xor z h p e = made (λ m n. reg_value row.Eor (known w.flags) m n) z (some-same _ z e)
  register-value binary.Lsh z h p e = made (λ m n. shifted_left m (n % 64)) z (some-same _ z e)
  register-value binary.Rsh z h p e = made (λ m n. shifted_right_signed m (n % 64)) z (some-same _ z e)
  register-value binary.RshU z h p e = made (λ m n. shifted_right m (n % 64)) z (some-same _ z e)
  register-value binary.Div z h p e = let g = given-where (divides x y) (quotient_signed x y) z e in made divided_signed z (otherwise (y == 0) 0 (quotient_signed x y) z (no-zero (y == 0) (is_least_by_minus_one x y) g.0) g.1)
  register-value binary.DivU z h p e = let g = given-where (not (y == 0)) (quotient x y) z e in made divided z (otherwise (y == 0) 0 (quotient x y) z (not-true (y == 0) g.0) g.1)
  register-value binary.Rem z h p e =
      let g = given-where (divides x y) (remainder_signed x y) z e in
      let q : divided_signed x y ≡ quotient_signed x y = otherwise (y == 0) 0 (quotient_signed x y) (quotient_signed x y) (no-zero (y == 0) (is_least_by_minus_one x y) g.0) refl in
      left divided_signed z p (ap (λ k. sub_words x (mul_words k y)) q ∙ left-over-signed x y xs ys ∙ g.1)
  register-value binary.RemU z h p e =
      let g = given-where (not (y == 0)) (remainder x y) z e in
      let q : divided x y ≡ quotient x y = otherwise (y == 0) 0 (quotient x y) (quotient x y) (not-true (y == 0) g.0) refl in
      left divided z p (ap (λ k. sub_words x (mul_words k y)) q ∙ left-over x y xs ∙ g.1)
  register-value binary.Lt z h p e = tested (failing binary.Lt) (is_less_signed x y) (test-word _ (is_less_signed x y) (holds-ge x y xs ys)) ∙ some-same _ z e
  register-value binary.LtU z h p e = tested (failing binary.LtU) (is_less x y) (test-word _ (is_less x y) (holds-cs x y xs ys)) ∙ some-same _ z e
  register-value binary.Le z h p e = tested (failing binary.Le) (not (is_less_signed y x)) (test-word-not _ (is_less_signed y x) (holds-gt x y xs ys)) ∙ some-same _ z e
  register-value binary.LeU z h p e = tested (failing binary.LeU) (not (is_less y x)) (test-word-not _ (is_less y x) (holds-hi x y xs ys)) ∙ some-same _ z e
  register-value binary.Ge z h p e = tested (failing binary.Ge) (not (is_less_signed x y)) (test-word-not _ (is_less_signed x y) (holds-lt x y xs ys)) ∙ some-same _ z e
  register-value binary.GeU z h p e = tested (failing binary.GeU) (not (is_less x y)) (test-word-not _ (is_less x y) (holds-cc x y xs ys)) ∙ some-same _ z e
  register-value binary.Gt z h p e = tested (failing binary.Gt) (is_less_signed y x) (test-word _ (is_less_signed y x) (holds-le x y xs ys)) ∙ some-same _ z e
  register-value binary.GtU z h p e = tested (failing binary.GtU) (is_less y x) (test-word _ (is_less y x) (holds-ls x y xs ys)) ∙ some-same _ z e
  register-value binary.Eq z h p e = tested (failing binary.Eq) (x == y) (test-word _ (x == y) (holds-ne x y xs ys)) ∙ some-same _ z e
  register-value binary.Ne z h p e = tested (failing binary.Ne) (not (x == y)) (test-word-not _ (x == y) (holds-eq x y xs ys)) ∙ some-same _ z e
  register-value o z h p e = cc

  -- ---- the carry
  -- C before the code is the carry that is taken, and of a difference its turning
  taken-sum : (k : Carry) (bit : Bool) → carry_in binary.Addx k ≡ Some bit → HoldsCarry Aarch64 w.registers (carry_of w.flags) k → carry_flag (known w.flags) ≡ bit
  taken-sum carry.Undefined bit e h = cc
  taken-sum (carry.Sum c) bit e h = ap carry_or_false h ∙ some-same c bit e
  taken-sum (carry.Difference c) bit e h = cc

  taken-difference : (k : Carry) (bit : Bool) → carry_in binary.Subx k ≡ Some bit → HoldsCarry Aarch64 w.registers (carry_of w.flags) k → carry_flag (known w.flags) ≡ not bit
  taken-difference carry.Undefined bit e h = cc
  taken-difference (carry.Sum c) bit e h = cc
  taken-difference (carry.Difference c) bit e h = ap carry_or_false h ∙ ap not (some-same c bit e)

  twice : (b : Bool) → not (not b) ≡ b
  twice true = refl
  twice false = refl

  add-sum : (m n : ℕ) → add_words m n ≡ (m + n + 0) % 2 ^ 64
  add-sum m n = ap (λ z. z % 2 ^ 64) (let z : m + n ≡ m + n + 0 = omega arith in z)

  -- a flag that the code sets, of the two words
  set : (f : ℕ → ℕ → Bool) (c : Bool) → f x y ≡ c → Some (f (read w.registers a) (read w.registers b)) ≡ Some c
  set f c e = ap Some ((λ i. f (read-is w.registers a (omega (arith, al)) i) (read-is w.registers b bl i)) ∙ e)

  pub carried-holds : (o : BinaryOp) (k : Carry) (bit : Bool) → sets_carry o ≡ true → carry_in o k ≡ Some bit → HoldsCarry Aarch64 w.registers (carry_of w.flags) k
      → HoldsWithCarry Aarch64 o d x y (bit_word bit) (computed (register_code o d a b) w)
  carried-holds binary.Addc k bit h e c =
      let z : false ≡ bit = some-same false bit e in
      record {
        value = made add_words (value_with_carry binary.Addc x y (bit_word bit)) (add-sum x y ∙ ap (λ t. (x + y + bit_word t) % 2 ^ 64) z);
        carry = set (λ m n. carry_flag (sum_flags m n 0)) (carry_out x y (bit_word bit)) (ap (λ t. carry_out x y (bit_word t)) z);
      }
  carried-holds binary.Subc k bit h e c =
      let z : false ≡ bit = some-same false bit e in
      record {
        value = made sub_words (value_with_carry binary.Subc x y (bit_word bit)) (sym (difference-same x y xs ys) ∙ ap (λ t. difference_of x y (bit_word t)) z);
        carry = set (λ m n. carry_flag (difference_flags m n 0)) (not (borrow_out x y (bit_word bit))) (ap (λ t. not (borrow_out x y (bit_word t))) z);
      }
  carried-holds binary.Addx k bit h e c =
      let z : carry_flag (known w.flags) ≡ bit = taken-sum k bit e c in
      record {
        value = made (λ m n. sum_of m n (carry_word (known w.flags))) (value_with_carry binary.Addx x y (bit_word bit)) (ap (λ t. sum_of x y (word_of_test t)) z);
        carry = set (λ m n. carry_flag (sum_flags m n (carry_word (known w.flags)))) (carry_out x y (bit_word bit)) (ap (λ t. carry_out x y (word_of_test t)) z);
      }
  carried-holds binary.Subx k bit h e c =
      let z : not (carry_flag (known w.flags)) ≡ bit = ap not (taken-difference k bit e c) ∙ twice bit in
      record {
        value = made (λ m n. difference_of m n (borrow_word (known w.flags))) (value_with_carry binary.Subx x y (bit_word bit)) (ap (λ t. difference_of x y (word_of_test t)) z);
        carry = set (λ m n. carry_flag (difference_flags m n (borrow_word (known w.flags)))) (not (borrow_out x y (bit_word bit))) (ap (λ t. not (borrow_out x y (word_of_test t))) z);
      }
  carried-holds o k bit h e c = cc

-- ---- what else the code does
pub register-keeps : (o : BinaryOp) (d a b : ℕ) (w : Held) (r : ℕ) → r ≢ d → r ≢ 30 → (computed (register_code o d a b) w).registers r ≡ w.registers r
register-keeps binary.Rem d a b w r ne link = write-other (write w.registers 30 (divided_signed (read w.registers a) (read w.registers b))) d _ r ne ∙ write-other w.registers 30 _ r link
register-keeps binary.RemU d a b w r ne link = write-other (write w.registers 30 (divided (read w.registers a) (read w.registers b))) d _ r ne ∙ write-other w.registers 30 _ r link
register-keeps o d a b w r ne link = write-other w.registers d _ r ne

pub register-computes : (o : BinaryOp) (d a b : ℕ) → all_compute (register_code o d a b) ≡ true
register-computes binary.Add d a b = refl
register-computes o d a b = refl
