-- What a sum or difference of a branch makes of the registers and the flags.
use Rattle.std.proofs.Common.{◌≡◌, ◌≢◌, ℕ, ◌+◌, ◌%◌, ◌^◌, ◌<◌, Bool, true, [], ◌∷◌, refl, ap, ◌∙◌, arith}
use Rattle.std.specs.Prelude.{not}
use Rattle.lg_base.specs.Words.{add_words, sub_words, sum_overflows, difference_overflows, carry_out, borrow_out}
use Rattle.lg_op.specs.declared.op.BranchSumOp.{BranchSumOp}
use Rattle.lg_op.specs.declared.op.BranchSumOp.TheVariants as sum
use Rattle.lg_op.specs.Operators.{branch_sum_value, branch_sum_goes}
use Rattle.lg_cpu.specs.A64Operators.{condition_holds, sum_of, sum_leaves, difference_leaves, sum_flags, difference_flags}
use Rattle.lg_base.specs.Flags.{overflow_flag, carry_flag}
use Rattle.lg_cpu.specs.A64Step.{read, write}
use Rattle.lg_sela_values.specs.Processor.Computations.{all_compute, computed_by}
use Rattle.lg_sela_values.proofs.OfProcessor.HeldLemmas.{read-is}
use Rattle.lg_carry.specs.Values.Computers.{Held}
use Rattle.lg_sela_values.proofs.BinaryCodeLemmas.{write-other, write-same}
use Rattle.lg_sela_values.proofs.FlagLemmas.{double-not, difference-same}
use Rattle.lg_sela.specs.Control.SumBranches.{sum_instruction, sum_taken}

-- ---- overflow
sum-overflow : (x y : ℕ) → overflow_flag (sum_flags x y 0) ≡ sum_overflows x y
sum-overflow x y = ap (sum_leaves x y) same
  where
    same : sum_of x y 0 ≡ add_words x y
    same = let z : x + y + 0 ≡ x + y = omega arith in ap (λ n. n % 2 ^ 64) z

difference-overflow : (x y : ℕ) → x < 2 ^ 64 → y < 2 ^ 64 → overflow_flag (difference_flags x y 0) ≡ difference_overflows x y
difference-overflow x y h k = ap (difference_leaves x y) (difference-same x y h k)

-- ---- the register of the first operand gets the word, the flags say where to go, and all other registers are kept
module _ (a b x y : ℕ) (al : a < 31) (bl : b < 31) (w : Held) (ea : w.registers a ≡ x) (eb : w.registers b ≡ y) (h : x < 2 ^ 64) (k : y < 2 ^ 64) where
  pub record Sums (o : BranchSumOp) : Type 0 where
    pub value : (computed_by (sum_instruction o a b) w).registers a ≡ branch_sum_value o x y
    pub goes : condition_holds (sum_taken o) (computed_by (sum_instruction o a b) w).flags ≡ branch_sum_goes o x y
    pub others : (r : ℕ) → r ≢ a → (computed_by (sum_instruction o a b) w).registers r ≡ w.registers r

  ra : read w.registers a ≡ x
  ra = read-is w.registers a al ∙ ea

  rb : read w.registers b ≡ y
  rb = read-is w.registers b bl ∙ eb

  made : (g : ℕ → ℕ → ℕ) → write w.registers a (g (read w.registers a) (read w.registers b)) a ≡ g x y
  made g = write-same w.registers a (g (read w.registers a) (read w.registers b)) al ∙ (λ i. g (ra i) (rb i))

  tells : (g : ℕ → ℕ → Bool) (t : Bool) → g x y ≡ t → g (read w.registers a) (read w.registers b) ≡ t
  tells g t e = (λ i. g (ra i) (rb i)) ∙ e

  kept : (v r : ℕ) → r ≢ a → write w.registers a v r ≡ w.registers r
  kept v r ne = write-other w.registers a v r ne

  pub sums : (o : BranchSumOp) → Sums o
  sums sum.OverflowAdd = record {
    value = made add_words;
    goes = tells (λ m n. overflow_flag (sum_flags m n 0)) (sum_overflows x y) (sum-overflow x y);
    others = λ r ne. kept _ r ne;
  }
  sums sum.OverflowAddU = record {
    value = made add_words;
    goes = tells (λ m n. carry_flag (sum_flags m n 0)) (carry_out x y 0) refl;
    others = λ r ne. kept _ r ne;
  }
  sums sum.OverflowSub = record {
    value = made sub_words;
    goes = tells (λ m n. overflow_flag (difference_flags m n 0)) (difference_overflows x y) (difference-overflow x y h k);
    others = λ r ne. kept _ r ne;
  }
  sums sum.OverflowSubU = record {
    value = made sub_words;
    goes = tells (λ m n. not (carry_flag (difference_flags m n 0))) (borrow_out x y 0) (double-not (borrow_out x y 0));
    others = λ r ne. kept _ r ne;
  }
  sums sum.FitAdd = record {
    value = made add_words;
    goes = tells (λ m n. not (overflow_flag (sum_flags m n 0))) (not (sum_overflows x y)) (ap not (sum-overflow x y));
    others = λ r ne. kept _ r ne;
  }
  sums sum.FitAddU = record {
    value = made add_words;
    goes = tells (λ m n. not (carry_flag (sum_flags m n 0))) (not (carry_out x y 0)) refl;
    others = λ r ne. kept _ r ne;
  }
  sums sum.FitSub = record {
    value = made sub_words;
    goes = tells (λ m n. not (overflow_flag (difference_flags m n 0))) (not (difference_overflows x y)) (ap not (difference-overflow x y h k));
    others = λ r ne. kept _ r ne;
  }
  sums sum.FitSubU = record {
    value = made sub_words;
    goes = tells (λ m n. carry_flag (difference_flags m n 0)) (not (borrow_out x y 0)) refl;
    others = λ r ne. kept _ r ne;
  }

pub sum-computes : (o : BranchSumOp) (a b : ℕ) → all_compute (sum_instruction o a b ∷ []) ≡ true
sum-computes sum.OverflowAdd a b = refl
sum-computes o a b = refl
