-- Instructions of four bytes lead to a multiple.
use Rattle.std.proofs.Common.{◌≡◌, ℕ, ◌+◌, ◌*◌, ◌%◌, ◌≤◌, ◌⊎◌, ⊎_elim, true, sym, subst, arith}
use Rattle.lg_op.specs.Forms.{is_alignment}
use Rattle.lg_sel.specs.Control.Paddings.{padding}

one-of : (n : ℕ) → is_alignment n ≡ true → (n ≡ 1) ⊎ ((n ≡ 2) ⊎ ((n ≡ 4) ⊎ ((n ≡ 8) ⊎ ((n ≡ 16) ⊎ ((n ≡ 32) ⊎ (n ≡ 64))))))
one-of n h = grind (arith, h)

abbrev pub Leads : ℕ → ℕ → Type 0
Leads at n = ((at + 4 * padding at n) % n ≡ 0) × (padding at n ≤ 15)

-- an alignment is a multiple of four, or less
pub padded : (at n : ℕ) → is_alignment n ≡ true → at % 4 ≡ 0 → Leads at n
padded at n h even =
    ⊎_elim (λ e. subst (Leads at) (sym e) (grind (arith, even), grind (arith, even)))
    (λ r. ⊎_elim (λ e. subst (Leads at) (sym e) (grind (arith, even), grind (arith, even)))
    (λ r. ⊎_elim (λ e. subst (Leads at) (sym e) (grind (arith, even), grind (arith, even)))
    (λ r. ⊎_elim (λ e. subst (Leads at) (sym e) (grind (arith, even), grind (arith, even)))
    (λ r. ⊎_elim (λ e. subst (Leads at) (sym e) (grind (arith, even), grind (arith, even)))
    (λ r. ⊎_elim (λ e. subst (Leads at) (sym e) (grind (arith, even), grind (arith, even)))
    (λ e. subst (Leads at) (sym e) (grind (arith, even), grind (arith, even))) r) r) r) r) r) (one-of n h)
