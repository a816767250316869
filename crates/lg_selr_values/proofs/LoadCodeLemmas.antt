-- Registers that are written once or twice, and code that puts a word into a register.
use Rattle.std.proofs.Common.{◌≡◌, ◌≢◌, ℕ, ◌^◌, ◌<◌, Bool, true, false, List, Some, ap, ◌∙◌, arith}
use Rattle.std.specs.Prelude.{◌==◌, if◌then◌else◌}
use Rattle.lg_rv.specs.declared.instruction.Instr.{Instr}
use Rattle.lg_cpu.specs.HostSteps.{put}
use Rattle.lg_cpu.specs.RvStep.{read}
use Rattle.lg_selr_values.specs.Processor.Computations.{all_compute, computed}
use Rattle.lg_selr_values.specs.Processor.Numbers.{number_code}
use Rattle.lg_selr_values.proofs.OfProcessor.ComputationLemmas.{put-same, put-again}
use Rattle.lg_selr_values.proofs.OfProcessor.NumberCodeLemmas.{number-computed, loaded-number}

pub some-same : {A : Type 0} (x y : A) → Some x ≡ Some y → x ≡ y
some-same x y e = cc

-- ---- registers
pub read-small : (w : ℕ → ℕ) (r : ℕ) → ((r : ℕ) → w r < 2 ^ 64) → read w r < 2 ^ 64
read-small w r words = by (r == 0)
  where
    by : (b : Bool) → (if b then 0 else w r) < 2 ^ 64
    by true = omega arith
    by false = words r

-- a word that is put is this one
pub puts : (w : ℕ → ℕ) (d x z : ℕ) → x ≡ z → put w d x d ≡ z
puts w d x z e = put-same w d x ∙ e

-- and one that is made of it
pub puts-again : (w : ℕ → ℕ) (d x : ℕ) (f : ℕ → ℕ) (z : ℕ) → d ≢ 0 → f x ≡ z → put (put w d x) d (f (read (put w d x) d)) d ≡ z
puts-again w d x f z ne e = ap (λ u. u d) (put-again w d x f ne) ∙ puts w d (f x) z e

pub put-small : (w : ℕ → ℕ) (t v : ℕ) → v < 2 ^ 64 → ((r : ℕ) → w r < 2 ^ 64) → (r : ℕ) → put w t v r < 2 ^ 64
put-small w t v small words r = by (r == t)
  where
    by : (b : Bool) → (if b then v else w r) < 2 ^ 64
    by true = small
    by false = words r

-- ---- code that puts a word into register t
pub record LoadsWord (load : List Instr) (t v : ℕ) : Type 0 where
  pub computes : all_compute load ≡ true
  pub value : (w : ℕ → ℕ) → computed load w ≡ put w t v
  pub small : v < 2 ^ 64

pub loads-number : (t v : ℕ) → t ≢ 0 → t < 32 → v < 2 ^ 64 → LoadsWord (number_code t v) t v
loads-number t v ne within small = let l = loaded-number t v ne within small in record { computes = l.computes; value = λ w. number-computed t v ne within small w; small = small }
