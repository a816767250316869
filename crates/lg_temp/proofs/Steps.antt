-- Steps of a machine, one after another.
use Rattle.std.proofs.Common.{◌≡◌, ◌≢◌, ℕ, zero, suc, ◌+◌, ◌-◌, ◌≤◌, [], ◌++◌, refl, sym, ap, ◌∙◌, arith, append_assoc, append-nil}
use Rattle.lg_base.specs.Runs.{Running, Machine, iter, IsPrefixOf, IsMachine}

pub iter-zero : {S : Type 0} (step : S → S) (s : S) → iter step 0 s ≡ s
unfolding iter
iter-zero step s = refl

pub iter-suc : {S : Type 0} (step : S → S) (n : ℕ) (s : S) → iter step (suc n) s ≡ step (iter step n s)
unfolding iter
iter-suc step n s = refl

-- the first step first
pub iter-first : {S : Type 0} (step : S → S) (n : ℕ) (s : S) → iter step (suc n) s ≡ iter step n (step s)
unfolding iter
iter-first step zero s = refl
iter-first step (suc n) s = ap step (iter-first step n s)

pub iter-plus : {S : Type 0} (step : S → S) (n i j : ℕ) (s : S) → n ≡ i + j → iter step n s ≡ iter step j (iter step i s)
unfolding iter
iter-plus step n i zero s e = let same : n ≡ i = omega arith in ap (λ m. iter step m s) same
iter-plus step zero i (suc j) s e = absurd (omega arith)
iter-plus step (suc n) i (suc j) s e = ap step (iter-plus step n i j s (omega arith))

-- a state that is over stays
pub iter-over : {S : Type 0} (m : Machine S) → IsMachine m → (n : ℕ) (s : S) → m.status s ≢ Running → iter m.step n s ≡ s
unfolding iter
iter-over m is zero s over = refl
iter-over m is (suc n) s over = ap m.step (iter-over m is n s over) ∙ is.stays s over

-- and so does one that is over after some steps
pub iter-after : {S : Type 0} (m : Machine S) → IsMachine m → (i n : ℕ) (s : S) → i ≤ n → m.status (iter m.step i s) ≢ Running → iter m.step n s ≡ iter m.step i s
iter-after m is i n s le over = iter-plus m.step n i (n - i) s (omega arith) ∙ iter-over m is (n - i) (iter m.step i s) over

-- what was written stays written
pub iter-writes : {S : Type 0} (m : Machine S) → IsMachine m → (n : ℕ) (s : S) → IsPrefixOf (m.out s) (m.out (iter m.step n s))
unfolding iter
iter-writes m is zero s = ([], append-nil (m.out s))
iter-writes m is (suc n) s =
    let before = iter-writes m is n s in
    let last = is.writes (iter m.step n s) in
    (before.0 ++ last.0, sym (append_assoc (m.out s) before.0 last.0) ∙ ap (λ x. x ++ last.0) before.1 ∙ last.1)
