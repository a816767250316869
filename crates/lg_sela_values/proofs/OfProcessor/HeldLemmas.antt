-- What instructions make of registers that are no 31.
use Rattle.std.proofs.Common.{◌≡◌, ◌≢◌, ℕ, ◌<◌, Bool, true, false, refl, ap, arith}
use Rattle.std.specs.Prelude.{◌==◌, if◌then◌else◌}
use Rattle.lg_cpu.specs.HostSteps.{put}
use Rattle.lg_cpu.specs.A64Step.{read, write}
use Rattle.lg_carry.proofs.OfValues.ComputationLemmas.{pointwise}

pub not-last : (r : ℕ) → r < 31 → (r == 31) ≡ false
not-last r lt = grind (arith, lt)

pub read-is : (w : ℕ → ℕ) (r : ℕ) → r < 31 → read w r ≡ w r
read-is w r lt = ap (λ b. if b then 0 else w r) (not-last r lt)

pub write-is : (w : ℕ → ℕ) (t x : ℕ) → t < 31 → write w t x ≡ put w t x
write-is w t x lt = pointwise (write w t x) (put w t x) (λ r. ap (λ b. if b then w r else put w t x r) (not-last t lt))

pub put-same : (w : ℕ → ℕ) (t x : ℕ) → put w t x t ≡ x
put-same w t x = grind arith

pub put-other : (w : ℕ → ℕ) (t x y : ℕ) → y ≢ t → put w t x y ≡ w y
put-other w t x y ne = grind (arith, ne)

pub put-twice : (w : ℕ → ℕ) (t x y : ℕ) → put (put w t x) t y ≡ put w t y
put-twice w t x y = pointwise (put (put w t x) t y) (put w t y) (λ r. at r (r == t))
  where
    at : (r : ℕ) (b : Bool) → (if b then y else (if b then x else w r)) ≡ (if b then y else w r)
    at r true = refl
    at r false = refl
