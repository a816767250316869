-- One more byte that can be read.
use Rattle.std.proofs.Common.{◌≡◌, ℕ, zero, suc, ◌+◌, ◌-◌, ◌^◌, ◌<◌, ◌≤◌, [], ◌∷◌, Some, None, refl, sym, ap, ◌∙◌, arith}
use Rattle.lg_host.specs.Runs.{Bytes, address_end, before, run_of, run}

run_of-zero : (n : ℕ) (m : Bytes) (a : ℕ) → n ≡ 0 → run_of n m a ≡ []
unfolding run_of
run_of-zero n m a e = rw e

run_of-suc : (n k : ℕ) (m : Bytes) (a : ℕ) → n ≡ suc k → run_of n m a ≡ before (m a) (run_of k m (a + 1))
unfolding run_of
run_of-suc n k m a e = rw e

-- nothing can be read after the end of memory
pub run-end : (m : Bytes) (a : ℕ) → 2 ^ 64 ≤ a → run m a ≡ []
run-end m a le = run_of-zero (address_end - a) m a (omega arith)

pub run-some : (m : Bytes) (a b : ℕ) → a < 2 ^ 64 → Some b ≡ m a → run m a ≡ b ∷ run m (a + 1)
run-some m a b lt is = run_of-suc (address_end - a) (address_end - (a + 1)) m a (omega arith) ∙ ap (λ o. before o (run m (a + 1))) (sym is)

pub run-none : (m : Bytes) (a : ℕ) → None ≡ m a → run m a ≡ []
run-none m a is = by (address_end - a) m a (sym is)
  where
    by : (n : ℕ) (m : Bytes) (a : ℕ) → m a ≡ None → run_of n m a ≡ []
    by zero m a is = run_of-zero 0 m a refl
    by (suc n) m a is = run_of-suc (suc n) n m a refl ∙ ap (λ o. before o (run_of n m (a + 1))) is
