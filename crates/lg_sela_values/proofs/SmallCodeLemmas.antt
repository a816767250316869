-- The code of the operations on a register and a number that an instruction holds.
use Rattle.std.proofs.Common.{◌≡◌, ◌≢◌, ℕ, ◌+◌, ◌%◌, ◌^◌, ◌<◌, Bool, true, false, [], Some, refl, sym, ap, ◌∙◌, arith}
use Rattle.std.specs.Prelude.{◌==◌, not}
use Rattle.lg_base.specs.Words.{add_words, sub_words, negated, is_less, is_less_signed, word_of_test, carry_out, borrow_out}
use Rattle.lg_base.specs.declared.target.Target.TheVariants.{Aarch64}
use Rattle.lg_op.specs.declared.op.BinaryOp.{BinaryOp}
use Rattle.lg_op.specs.declared.op.BinaryOp.TheVariants as binary
use Rattle.lg_op.specs.declared.carry.Carry.{Carry}
use Rattle.lg_op.specs.Operators.{binary_value, sets_carry, carry_in}
use Rattle.lg_meaning.specs.Steps.{bit_word}
use Rattle.lg_a64.specs.declared.instruction.Cond.{Cond}
use Rattle.lg_cpu.specs.A64Operators.{difference_flags, difference_of, csinc_value, condition_holds}
use Rattle.lg_cpu.specs.A64Step.{write}
use Rattle.lg_carry.specs.Values.Computers.{Held}
use Rattle.lg_carry.specs.Values.Values.{HoldsWithCarry}
use Rattle.lg_sela_values.specs.Processor.Computations.{all_compute, computed}
use Rattle.lg_sela_values.proofs.OfProcessor.HeldLemmas.{put-same, put-other}
use Rattle.lg_sela_values.specs.BinaryCode.{failing, takes_small, small_code, takes_negative, negative_code}
use Rattle.lg_sela_values.proofs.BinaryCodeLemmas.{some-same, write-same, write-other}
use Rattle.lg_sela_values.proofs.FlagLemmas.{holds-lt, holds-ge, holds-gt, holds-le, holds-cc, holds-cs, holds-hi, holds-ls, holds-eq, holds-ne, test-word, test-word-not, difference-same}
use Rattle.lg_sela_values.proofs.MadeLemmas.{Makes}

module _ (d a v : ℕ) (dl : d < 31) (w : Held) (xs : w.registers a < 2 ^ 64) (ys : v < 2 ^ 64) where
  abbrev x : ℕ
  x = w.registers a

  -- a comparison, and a choice
  tested : (c : Cond) (t : Bool) → csinc_value (condition_holds c (difference_flags x v 0)) 0 0 ≡ word_of_test t → write w.registers d (csinc_value (condition_holds c (difference_flags x v 0)) 0 0) d ≡ word_of_test t
  tested c t e = write-same w.registers d (csinc_value (condition_holds c (difference_flags x v 0)) 0 0) dl ∙ e

  pub small-value : (o : BinaryOp) (z : ℕ) → takes_small o ≡ true → sets_carry o ≡ false → binary_value o x v ≡ Some z → (computed (small_code o d a v) w).registers d ≡ z
  small-value binary.Add z h p e = put-same w.registers d (add_words x v) ∙ some-same _ z e
  small-value binary.Sub z h p e = put-same w.registers d (sub_words x v) ∙ some-same _ z e
  small-value binary.Lt z h p e = tested (failing binary.Lt) (is_less_signed x v) (test-word _ (is_less_signed x v) (holds-ge x v xs ys)) ∙ some-same _ z e
  small-value binary.LtU z h p e = tested (failing binary.LtU) (is_less x v) (test-word _ (is_less x v) (holds-cs x v xs ys)) ∙ some-same _ z e
  small-value binary.Le z h p e = tested (failing binary.Le) (not (is_less_signed v x)) (test-word-not _ (is_less_signed v x) (holds-gt x v xs ys)) ∙ some-same _ z e
  small-value binary.LeU z h p e = tested (failing binary.LeU) (not (is_less v x)) (test-word-not _ (is_less v x) (holds-hi x v xs ys)) ∙ some-same _ z e
  small-value binary.Ge z h p e = tested (failing binary.Ge) (not (is_less_signed x v)) (test-word-not _ (is_less_signed x v) (holds-lt x v xs ys)) ∙ some-same _ z e
  small-value binary.GeU z h p e = tested (failing binary.GeU) (not (is_less x v)) (test-word-not _ (is_less x v) (holds-cc x v xs ys)) ∙ some-same _ z e
  small-value binary.Gt z h p e = tested (failing binary.Gt) (is_less_signed v x) (test-word _ (is_less_signed v x) (holds-le x v xs ys)) ∙ some-same _ z e
  small-value binary.GtU z h p e = tested (failing binary.GtU) (is_less v x) (test-word _ (is_less v x) (holds-ls x v xs ys)) ∙ some-same _ z e
  small-value binary.Eq z h p e = tested (failing binary.Eq) (x == v) (test-word _ (x == v) (holds-ne x v xs ys)) ∙ some-same _ z e
  small-value binary.Ne z h p e = tested (failing binary.Ne) (not (x == v)) (test-word-not _ (x == v) (holds-eq x v xs ys)) ∙ some-same _ z e
  small-value o z h p e = cc

  add-sum : (m n : ℕ) → add_words m n ≡ (m + n + 0) % 2 ^ 64
  add-sum m n = ap (λ z. z % 2 ^ 64) (let z : m + n ≡ m + n + 0 = omega arith in z)

  pub small-holds : (o : BinaryOp) (k : Carry) (bit : Bool) → takes_small o ≡ true → sets_carry o ≡ true → carry_in o k ≡ Some bit
      → HoldsWithCarry Aarch64 o d x v (bit_word bit) (computed (small_code o d a v) w)
  small-holds binary.Addc k bit h p e =
      let z : false ≡ bit = some-same false bit e in
      record {
        value = write-same w.registers d (add_words x v) dl ∙ add-sum x v ∙ ap (λ t. (x + v + bit_word t) % 2 ^ 64) z;
        carry = ap Some (ap (λ t. carry_out x v (bit_word t)) z);
      }
  small-holds binary.Subc k bit h p e =
      let z : false ≡ bit = some-same false bit e in
      record {
        value = write-same w.registers d (sub_words x v) dl ∙ sym (difference-same x v xs ys) ∙ ap (λ t. difference_of x v (bit_word t)) z;
        carry = ap Some (ap (λ t. not (borrow_out x v (bit_word t))) z);
      }
  small-holds o k bit h p e = cc

  -- ---- where it holds the negative
  add-negative : (m n : ℕ) → m < 2 ^ 64 → n < 2 ^ 64 → sub_words m (negated n) ≡ add_words m n
  add-negative m n h k = omega (arith, h, k)

  sub-negative : (m n : ℕ) → m < 2 ^ 64 → n < 2 ^ 64 → add_words m (negated n) ≡ sub_words m n
  sub-negative m n h k = omega (arith, h, k)

  pub negative-value : (o : BinaryOp) (z : ℕ) → takes_negative o ≡ true → binary_value o x v ≡ Some z → (computed (negative_code o d a v) w).registers d ≡ z
  negative-value binary.Add z h e = put-same w.registers d (sub_words x (negated v)) ∙ add-negative x v xs ys ∙ some-same _ z e
  negative-value binary.Sub z h e = put-same w.registers d (add_words x (negated v)) ∙ sub-negative x v xs ys ∙ some-same _ z e
  negative-value o z h e = cc

-- ---- what else the code does
small-keeps : (o : BinaryOp) (d a v : ℕ) (w : Held) (r : ℕ) → r ≢ d → (computed (small_code o d a v) w).registers r ≡ w.registers r
small-keeps binary.Add d a v w r ne = put-other w.registers d _ r ne
small-keeps binary.Sub d a v w r ne = put-other w.registers d _ r ne
small-keeps binary.Addc d a v w r ne = write-other w.registers d _ r ne
small-keeps binary.Subc d a v w r ne = write-other w.registers d _ r ne
small-keeps o d a v w r ne = write-other w.registers d _ r ne

small-computes : (o : BinaryOp) (d a v : ℕ) → all_compute (small_code o d a v) ≡ true
small-computes binary.Add d a v = refl
small-computes o d a v = refl

negative-keeps : (o : BinaryOp) (d a v : ℕ) (w : Held) (r : ℕ) → r ≢ d → (computed (negative_code o d a v) w).registers r ≡ w.registers r
negative-keeps binary.Add d a v w r ne = put-other w.registers d _ r ne
negative-keeps o d a v w r ne = put-other w.registers d _ r ne

negative-computes : (o : BinaryOp) (d a v : ℕ) → all_compute (negative_code o d a v) ≡ true
negative-computes binary.Add d a v = refl
negative-computes o d a v = refl

pub small-makes : (o : BinaryOp) (d a v : ℕ) → d < 31 → v < 2 ^ 64 → takes_small o ≡ true → Makes o d a (λ w. v) [] (small_code o d a v)
small-makes o d a v dl small takes = record {
  computes = small-computes o d a v;
  keeps = λ w r ne off taken. small-keeps o d a v w r ne;
  word = λ w z words plain e. small-value d a v dl w (words a) small o z takes plain e;
  carried = λ w k bit words carries e h. small-holds d a v dl w (words a) small o k bit takes carries e;
}

plain-negative : (o : BinaryOp) → takes_negative o ≡ true → sets_carry o ≡ true → ⊥
plain-negative binary.Add h k = cc
plain-negative binary.Sub h k = cc
plain-negative o h k = cc

pub negative-makes : (o : BinaryOp) (d a v : ℕ) → d < 31 → v < 2 ^ 64 → takes_negative o ≡ true → Makes o d a (λ w. v) [] (negative_code o d a v)
negative-makes o d a v dl small takes = record {
  computes = negative-computes o d a v;
  keeps = λ w r ne off taken. negative-keeps o d a v w r ne;
  word = λ w z words plain e. negative-value d a v dl w (words a) small o z takes e;
  carried = λ w k bit words carries e h. absurd (plain-negative o takes carries);
}
