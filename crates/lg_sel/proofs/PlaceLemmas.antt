-- The first address of code is a multiple of every alignment.
use Rattle.std.proofs.Common.{◌≡◌, ℕ, ◌+◌, ◌%◌, ◌⊎◌, ⊎_elim, Bool, true, false, refl, arith}
use Rattle.std.specs.Prelude.{◌&&◌}
use Rattle.lg_base.specs.Layout.{code_base}
use Rattle.lg_op.specs.Forms.{is_alignment}

one-of : (n : ℕ) → is_alignment n ≡ true → (n ≡ 1) ⊎ ((n ≡ 2) ⊎ ((n ≡ 4) ⊎ ((n ≡ 8) ⊎ ((n ≡ 16) ⊎ ((n ≡ 32) ⊎ (n ≡ 64))))))
one-of n h = grind (arith, h)

-- so a place and its address lie alike
pub remainder : (p n : ℕ) → is_alignment n ≡ true → (code_base + p) % n ≡ p % n
remainder p n h =
    ⊎_elim (λ e. rw e (omega arith)) (λ r. ⊎_elim (λ e. rw e (omega arith)) (λ r. ⊎_elim (λ e. rw e (omega arith)) (λ r. ⊎_elim (λ e. rw e (omega arith))
    (λ r. ⊎_elim (λ e. rw e (omega arith)) (λ r. ⊎_elim (λ e. rw e (omega arith)) (λ e. rw e (omega arith)) r) r) r) r) r) (one-of n h)

pub and-first : (a b : Bool) → (a && b) ≡ true → a ≡ true
and-first true b e = refl
and-first false b e = cc
