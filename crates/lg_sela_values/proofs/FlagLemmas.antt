-- What a comparison of two words leaves in the flags.
use Rattle.std.proofs.Common.{◌≡◌, ℕ, ◌^◌, ◌<◌, Bool, true, false, refl, ap, ◌∙◌, arith}
use Rattle.std.specs.Prelude.{◌==◌, ◌&&◌, not}
use Rattle.lg_base.specs.Words.{sub_words, differ, is_negative, is_less, is_less_signed, word_of_test, borrow_out}
use Rattle.lg_a64.specs.declared.instruction.Cond.TheVariants as cond
use Rattle.lg_cpu.specs.A64Operators.{condition_holds, difference_of, difference_leaves, difference_flags, csinc_value}

-- of a difference: N is not V where the first is less, C where it is not less without signs, and Z where they are equal
pub less-is : (x y : ℕ) → x < 2 ^ 64 → y < 2 ^ 64 → differ (is_negative (difference_of x y 0)) (difference_leaves x y (difference_of x y 0)) ≡ is_less_signed x y
less-is x y h k = grind (arith, h, k)

pub borrow-is : (x y : ℕ) → borrow_out x y 0 ≡ is_less x y
borrow-is x y = grind arith

pub equal-is : (x y : ℕ) → x < 2 ^ 64 → y < 2 ^ 64 → (difference_of x y 0 == 0) ≡ (x == y)
equal-is x y h k = grind (arith, h, k)

greater-unsigned : (x y : ℕ) → (not (is_less x y) && not (x == y)) ≡ is_less y x
greater-unsigned x y = grind arith

greater-signed : (x y : ℕ) → x < 2 ^ 64 → y < 2 ^ 64 → (not (x == y) && not (is_less_signed x y)) ≡ is_less_signed y x
greater-signed x y h k = grind (arith, h, k)

pub double-not : (b : Bool) → not (not b) ≡ b
double-not true = refl
double-not false = refl

-- the conditions after a comparison
module _ (x y : ℕ) (h : x < 2 ^ 64) (k : y < 2 ^ 64) where
  pub holds-lt : condition_holds cond.Lt (difference_flags x y 0) ≡ is_less_signed x y
  holds-lt = less-is x y h k

  pub holds-ge : condition_holds cond.Ge (difference_flags x y 0) ≡ not (is_less_signed x y)
  holds-ge = ap not (less-is x y h k)

  pub holds-gt : condition_holds cond.Gt (difference_flags x y 0) ≡ is_less_signed y x
  holds-gt = (λ i. not (equal-is x y h k i) && not (less-is x y h k i)) ∙ greater-signed x y h k

  pub holds-le : condition_holds cond.Le (difference_flags x y 0) ≡ not (is_less_signed y x)
  holds-le = ap not holds-gt

  pub holds-cc : condition_holds cond.Cc (difference_flags x y 0) ≡ is_less x y
  holds-cc = double-not (borrow_out x y 0) ∙ borrow-is x y

  pub holds-cs : condition_holds cond.Cs (difference_flags x y 0) ≡ not (is_less x y)
  holds-cs = ap not (borrow-is x y)

  pub holds-hi : condition_holds cond.Hi (difference_flags x y 0) ≡ is_less y x
  holds-hi = (λ i. not (borrow-is x y i) && not (equal-is x y h k i)) ∙ greater-unsigned x y

  pub holds-ls : condition_holds cond.Ls (difference_flags x y 0) ≡ not (is_less y x)
  holds-ls = ap not holds-hi

  pub holds-eq : condition_holds cond.Eq (difference_flags x y 0) ≡ (x == y)
  holds-eq = equal-is x y h k

  pub holds-ne : condition_holds cond.Ne (difference_flags x y 0) ≡ not (x == y)
  holds-ne = ap not (equal-is x y h k)

-- 0 where a condition holds that fails with the test
pub test-word : (b c : Bool) → b ≡ not c → csinc_value b 0 0 ≡ word_of_test c
test-word b true e = ap (λ z. csinc_value z 0 0) e
test-word b false e = ap (λ z. csinc_value z 0 0) e

pub test-word-not : (b c : Bool) → b ≡ c → csinc_value b 0 0 ≡ word_of_test (not c)
test-word-not b true e = ap (λ z. csinc_value z 0 0) e
test-word-not b false e = ap (λ z. csinc_value z 0 0) e

-- a difference
pub difference-same : (x y : ℕ) → x < 2 ^ 64 → y < 2 ^ 64 → difference_of x y 0 ≡ sub_words x y
difference-same x y h k = omega (arith, h, k)
