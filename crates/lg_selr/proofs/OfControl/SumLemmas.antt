-- What the code of a branch that adds or subtracts makes of the registers.
use Rattle.std.proofs.Common.{◌≡◌, ◌≢◌, ℕ, ◌^◌, ◌<◌, Bool, true, false, refl, sym, ap, ◌∙◌, arith}
use Rattle.std.specs.Prelude.{◌==◌, not, bit_xor}
use Rattle.lg_base.specs.Words.{add_words, sub_words, is_less, is_less_signed, word_of_test, differ, sum_overflows, difference_overflows, carry_out, borrow_out}
use Rattle.lg_op.specs.declared.op.BranchSumOp.{BranchSumOp}
use Rattle.lg_op.specs.declared.op.BranchSumOp.TheVariants as sum
use Rattle.lg_op.specs.Operators.{branch_sum_value, branch_sum_goes}
use Rattle.lg_cpu.specs.HostSteps.{put}
use Rattle.lg_cpu.specs.RvOperators.{is_taken}
use Rattle.lg_cpu.specs.RvStep.{read}
use Rattle.lg_selr_values.specs.Processor.Computations.{all_compute, computed}
use Rattle.lg_selr_values.proofs.OfProcessor.ComputationLemmas.{read-put, read-other, put-same, put-other}
use Rattle.lg_selr.specs.Control.SumBranches.{signed_sum_code, signed_difference_code, unsigned_sum_code, unsigned_difference_code, sum_code, staying}

-- ---- words
xor-tests : (p q : Bool) → (bit_xor (word_of_test p) (word_of_test q) == 0) ≡ not (differ p q)
xor-tests true true = refl
xor-tests true false = refl
xor-tests false true = refl
xor-tests false false = refl

one-test : (p : Bool) → (word_of_test p == 0) ≡ not p
one-test true = refl
one-test false = refl

sum-differs : (x y : ℕ) → x < 2 ^ 64 → y < 2 ^ 64 → differ (is_less_signed y 0) (is_less_signed (add_words x y) x) ≡ sum_overflows x y
sum-differs x y h k = grind (arith, h, k)

difference-differs : (x y : ℕ) → x < 2 ^ 64 → y < 2 ^ 64 → differ (is_less_signed x y) (is_less_signed (sub_words x y) 0) ≡ difference_overflows x y
difference-differs x y h k = grind (arith, h, k)

sum-carries : (x y : ℕ) → x < 2 ^ 64 → y < 2 ^ 64 → is_less (add_words x y) x ≡ carry_out x y 0
sum-carries x y h k = grind (arith, h, k)

difference-borrows : (x y : ℕ) → is_less x y ≡ borrow_out x y 0
difference-borrows x y = grind arith

same-word : (x y : ℕ) → add_words (add_words x y) 0 ≡ add_words x y
same-word x y = grind arith

same-difference : (x y : ℕ) → add_words (sub_words x y) 0 ≡ sub_words x y
same-difference x y = grind arith

-- ---- registers
-- register a gets a word, x31 a test, and all others but x1 are kept
record Makes (w u : ℕ → ℕ) (a v : ℕ) (p : Bool) : Type 0 where
  value : u a ≡ v
  test : (read u 31 == 0) ≡ not p
  others : (z : ℕ) → z ≢ 1 → z ≢ 31 → z ≢ a → u z ≡ w z

module _ (w : ℕ → ℕ) (a b x y : ℕ) (a0 : a ≢ 0) (a1 : a ≢ 1) (a31 : a ≢ 31) (b31 : b ≢ 31) (ea : read w a ≡ x) (eb : read w b ≡ y) (hx : x < 2 ^ 64) (hy : y < 2 ^ 64) where
  signed-sum : Makes w (computed (signed_sum_code a b) w) a (add_words x y) (sum_overflows x y)
  signed-sum =
      let t1 = word_of_test (is_less_signed (read w b) 0) in
      let w1 = put w 31 t1 in
      let v2 = add_words (read w1 a) (read w1 b) in
      let w2 = put w1 1 v2 in
      let t3 = word_of_test (is_less_signed (read w2 1) (read w2 a)) in
      let w3 = put w2 a t3 in
      let v4 = bit_xor (read w3 31) (read w3 a) in
      let w4 = put w3 31 v4 in
      let v5 = add_words (read w4 1) 0 in
      let e1 : read w1 a ≡ x = read-other w 31 t1 a a31 ∙ ea in
      let f1 : read w1 b ≡ y = read-other w 31 t1 b b31 ∙ eb in
      let e2 : v2 ≡ add_words x y = λ j. add_words (e1 j) (f1 j) in
      let s2 : read w2 1 ≡ add_words x y = read-put w1 1 v2 (λ z. cc) ∙ e2 in
      let f2 : read w2 a ≡ x = read-other w1 1 v2 a a1 ∙ e1 in
      let e3 : t3 ≡ word_of_test (is_less_signed (add_words x y) x) = λ j. word_of_test (is_less_signed (s2 j) (f2 j)) in
      let g3 : read w3 31 ≡ word_of_test (is_less_signed y 0) = read-other w2 a t3 31 (λ z. a31 (sym z)) ∙ read-other w1 1 v2 31 (λ z. cc) ∙ read-put w 31 t1 (λ z. cc) ∙ ap (λ z. word_of_test (is_less_signed z 0)) eb in
      let h3 : read w3 a ≡ word_of_test (is_less_signed (add_words x y) x) = read-put w2 a t3 a0 ∙ e3 in
      let e4 : v4 ≡ bit_xor (word_of_test (is_less_signed y 0)) (word_of_test (is_less_signed (add_words x y) x)) = λ j. bit_xor (g3 j) (h3 j) in
      let s4 : read w4 1 ≡ add_words x y = read-other w3 31 v4 1 (λ z. cc) ∙ read-other w2 a t3 1 (λ z. a1 (sym z)) ∙ s2 in
      record {
        value = put-same w4 a v5 ∙ ap (λ z. add_words z 0) s4 ∙ same-word x y;
        test = ap (λ z. z == 0) (read-other w4 a v5 31 (λ z. a31 (sym z)) ∙ read-put w3 31 v4 (λ z. cc) ∙ e4) ∙ xor-tests (is_less_signed y 0) (is_less_signed (add_words x y) x) ∙ ap not (sum-differs x y hx hy);
        others = λ z z1 z31 za. put-other w4 a v5 z za ∙ put-other w3 31 v4 z z31 ∙ put-other w2 a t3 z za ∙ put-other w1 1 v2 z z1 ∙ put-other w 31 t1 z z31;
      }

  signed-difference : Makes w (computed (signed_difference_code a b) w) a (sub_words x y) (difference_overflows x y)
  signed-difference =
      let t1 = word_of_test (is_less_signed (read w a) (read w b)) in
      let w1 = put w 31 t1 in
      let v2 = sub_words (read w1 a) (read w1 b) in
      let w2 = put w1 1 v2 in
      let t3 = word_of_test (is_less_signed (read w2 1) 0) in
      let w3 = put w2 a t3 in
      let v4 = bit_xor (read w3 31) (read w3 a) in
      let w4 = put w3 31 v4 in
      let v5 = add_words (read w4 1) 0 in
      let e1 : read w1 a ≡ x = read-other w 31 t1 a a31 ∙ ea in
      let f1 : read w1 b ≡ y = read-other w 31 t1 b b31 ∙ eb in
      let e2 : v2 ≡ sub_words x y = λ j. sub_words (e1 j) (f1 j) in
      let s2 : read w2 1 ≡ sub_words x y = read-put w1 1 v2 (λ z. cc) ∙ e2 in
      let g1 : t1 ≡ word_of_test (is_less_signed x y) = λ j. word_of_test (is_less_signed (ea j) (eb j)) in
      let g3 : read w3 31 ≡ word_of_test (is_less_signed x y) = read-other w2 a t3 31 (λ z. a31 (sym z)) ∙ read-other w1 1 v2 31 (λ z. cc) ∙ read-put w 31 t1 (λ z. cc) ∙ g1 in
      let h3 : read w3 a ≡ word_of_test (is_less_signed (sub_words x y) 0) = read-put w2 a t3 a0 ∙ ap (λ z. word_of_test (is_less_signed z 0)) s2 in
      let e4 : v4 ≡ bit_xor (word_of_test (is_less_signed x y)) (word_of_test (is_less_signed (sub_words x y) 0)) = λ j. bit_xor (g3 j) (h3 j) in
      let s4 : read w4 1 ≡ sub_words x y = read-other w3 31 v4 1 (λ z. cc) ∙ read-other w2 a t3 1 (λ z. a1 (sym z)) ∙ s2 in
      record {
        value = put-same w4 a v5 ∙ ap (λ z. add_words z 0) s4 ∙ same-difference x y;
        test = ap (λ z. z == 0) (read-other w4 a v5 31 (λ z. a31 (sym z)) ∙ read-put w3 31 v4 (λ z. cc) ∙ e4) ∙ xor-tests (is_less_signed x y) (is_less_signed (sub_words x y) 0) ∙ ap not (difference-differs x y hx hy);
        others = λ z z1 z31 za. put-other w4 a v5 z za ∙ put-other w3 31 v4 z z31 ∙ put-other w2 a t3 z za ∙ put-other w1 1 v2 z z1 ∙ put-other w 31 t1 z z31;
      }

  unsigned-sum : Makes w (computed (unsigned_sum_code a b) w) a (add_words x y) (carry_out x y 0)
  unsigned-sum =
      let v1 = add_words (read w a) (read w b) in
      let w1 = put w 1 v1 in
      let t2 = word_of_test (is_less (read w1 1) (read w1 a)) in
      let w2 = put w1 31 t2 in
      let v3 = add_words (read w2 1) 0 in
      let e1 : v1 ≡ add_words x y = λ j. add_words (ea j) (eb j) in
      let s1 : read w1 1 ≡ add_words x y = read-put w 1 v1 (λ z. cc) ∙ e1 in
      let f1 : read w1 a ≡ x = read-other w 1 v1 a a1 ∙ ea in
      let e2 : t2 ≡ word_of_test (is_less (add_words x y) x) = λ j. word_of_test (is_less (s1 j) (f1 j)) in
      let s2 : read w2 1 ≡ add_words x y = read-other w1 31 t2 1 (λ z. cc) ∙ s1 in
      record {
        value = put-same w2 a v3 ∙ ap (λ z. add_words z 0) s2 ∙ same-word x y;
        test = ap (λ z. z == 0) (read-other w2 a v3 31 (λ z. a31 (sym z)) ∙ read-put w1 31 t2 (λ z. cc) ∙ e2) ∙ one-test (is_less (add_words x y) x) ∙ ap not (sum-carries x y hx hy);
        others = λ z z1 z31 za. put-other w2 a v3 z za ∙ put-other w1 31 t2 z z31 ∙ put-other w 1 v1 z z1;
      }

  unsigned-difference : Makes w (computed (unsigned_difference_code a b) w) a (sub_words x y) (borrow_out x y 0)
  unsigned-difference =
      let t1 = word_of_test (is_less (read w a) (read w b)) in
      let w1 = put w 31 t1 in
      let v2 = sub_words (read w1 a) (read w1 b) in
      let e1 : read w1 a ≡ x = read-other w 31 t1 a a31 ∙ ea in
      let f1 : read w1 b ≡ y = read-other w 31 t1 b b31 ∙ eb in
      let g1 : t1 ≡ word_of_test (is_less x y) = λ j. word_of_test (is_less (ea j) (eb j)) in
      record {
        value = put-same w1 a v2 ∙ (λ j. sub_words (e1 j) (f1 j));
        test = ap (λ z. z == 0) (read-other w1 a v2 31 (λ z. a31 (sym z)) ∙ read-put w 31 t1 (λ z. cc) ∙ g1) ∙ one-test (is_less x y) ∙ ap not (difference-borrows x y);
        others = λ z z1 z31 za. put-other w1 a v2 z za ∙ put-other w 31 t1 z z31;
      }

  -- the branch is taken where the node does not go to its label
  pub record Sums (o : BranchSumOp) : Type 0 where
    pub value : computed (sum_code o a b) w a ≡ branch_sum_value o x y
    pub taken : is_taken (staying o) (read (computed (sum_code o a b) w) 31) 0 ≡ not (branch_sum_goes o x y)
    pub others : (z : ℕ) → z ≢ 1 → z ≢ 31 → z ≢ a → computed (sum_code o a b) w z ≡ w z

  pub sums : (o : BranchSumOp) → Sums o
  sums sum.OverflowAdd = record { value = signed-sum.value; taken = signed-sum.test; others = signed-sum.others }
  sums sum.OverflowAddU = record { value = unsigned-sum.value; taken = unsigned-sum.test; others = unsigned-sum.others }
  sums sum.OverflowSub = record { value = signed-difference.value; taken = signed-difference.test; others = signed-difference.others }
  sums sum.OverflowSubU = record { value = unsigned-difference.value; taken = unsigned-difference.test; others = unsigned-difference.others }
  sums sum.FitAdd = record { value = signed-sum.value; taken = ap not signed-sum.test; others = signed-sum.others }
  sums sum.FitAddU = record { value = unsigned-sum.value; taken = ap not unsigned-sum.test; others = unsigned-sum.others }
  sums sum.FitSub = record { value = signed-difference.value; taken = ap not signed-difference.test; others = signed-difference.others }
  sums sum.FitSubU = record { value = unsigned-difference.value; taken = ap not unsigned-difference.test; others = unsigned-difference.others }

pub sum-computes : (o : BranchSumOp) (a b : ℕ) → all_compute (sum_code o a b) ≡ true
sum-computes sum.OverflowAdd a b = refl
sum-computes o a b = refl
