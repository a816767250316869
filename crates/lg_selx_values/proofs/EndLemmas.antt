-- Two results go from rax, 0, and rdx, 2, to their registers, and FP is made again after them.
use Rattle.std.proofs.Common.{◌≡◌, ◌≢◌, ℕ, ◌-◌, Bool, true, false, refl, sym, ap, ◌∙◌}
use Rattle.std.specs.Prelude.{◌==◌}
use Rattle.lg_base.specs.Words.{add_words}
use Rattle.lg_cpu.specs.HostSteps.{put}
use Rattle.lg_selx_values.proofs.RegisterLemmas.{put-same, put-other, equal, apart}

abbrev pub ends : ℕ → ℕ → (ℕ → ℕ) → ℕ → ℕ
ends d e u = put (put u d (u 0)) e (put u d (u 0) 2)

pub ends-first : (d e : ℕ) → d ≢ e → (u : ℕ → ℕ) (x : ℕ) → u 0 ≡ x → ends d e u d ≡ x
ends-first d e de u x h = put-other (put u d (u 0)) e _ d de ∙ put-same u d (u 0) ∙ h

pub ends-second : (d e : ℕ) → d ≢ 2 → (u : ℕ → ℕ) (y : ℕ) → u 2 ≡ y → ends d e u e ≡ y
ends-second d e d2 u y h = put-same (put u d (u 0)) e _ ∙ put-other u d (u 0) 2 (λ z. d2 (sym z)) ∙ h

pub ends-other : (d e : ℕ) (u : ℕ → ℕ) (r : ℕ) → r ≢ d → r ≢ e → ends d e u r ≡ u r
ends-other d e u r ne ne' = put-other (put u d (u 0)) e _ r ne' ∙ put-other u d (u 0) r ne

abbrev pub remade : ℕ → ℕ → ℕ → (ℕ → ℕ) → ℕ → ℕ
remade frame d e u = put (ends d e u) 5 (add_words (ends d e u 4) (frame - 16))

-- a register that the code after w left, but for FP, is as it was
pub remade-keeps : (frame d e : ℕ) → d ≢ 4 → e ≢ 4 → (w u : ℕ → ℕ) → add_words (w 4) (frame - 16) ≡ w 5 → u 4 ≡ w 4 → (r : ℕ) → r ≢ d → r ≢ e → (r ≢ 5 → u r ≡ w r) → remade frame d e u r ≡ w r
remade-keeps frame d e d4 e4 w u pointer same r ne ne' left = by (r == 5) refl
  where
    by : (k : Bool) → (r == 5) ≡ k → remade frame d e u r ≡ w r
    by true h =
        let z : r ≡ 5 = equal r 5 h in
        ap (remade frame d e u) z ∙ ap (λ n. add_words n (frame - 16)) (ends-other d e u 4 (λ f. d4 (sym f)) (λ f. e4 (sym f)) ∙ same) ∙ pointer ∙ ap w (sym z)
    by false h = put-other (ends d e u) 5 _ r (apart r 5 h) ∙ ends-other d e u r ne ne' ∙ left (apart r 5 h)
