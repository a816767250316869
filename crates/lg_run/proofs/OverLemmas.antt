-- Runs of machines that are over stay.
use Rattle.std.proofs.Common.{◌≡◌, ◌≢◌, ℕ, ◌≤◌, sym, ap, ◌∙◌, arith, refl, ⊎_elim}
use Rattle.std.proofs.lemmas.Bool.{cases_lt}
use Rattle.lg_base.specs.Runs.{Status, Running, Ended, Bad, Machine, IsMachine, iter}
use Rattle.lg_temp.proofs.Steps.{iter-after}

pub ended_running : {s : ℕ} → Ended s ≡ Running → ⊥
ended_running e = cc

pub bad_running : Bad ≡ Running → ⊥
bad_running e = cc

pub ended_bad : {s : ℕ} → Ended s ≡ Bad → ⊥
ended_bad e = cc

module _ {S : Type 0} (m : Machine S) (is : IsMachine m) (s : S) where
  abbrev status : ℕ → Status
  status n = m.status (iter m.step n s)

  pub over_later : (n k : ℕ) → n ≤ k → status n ≢ Running → iter m.step k s ≡ iter m.step n s
  over_later n k le over = iter-after m is n k s le over

  pub stays_over : (n k : ℕ) → n ≤ k → status n ≢ Running → status k ≡ status n
  stays_over n k le over = ap m.status (over_later n k le over)

  -- so one that goes on has gone on
  pub going_before : (n k : ℕ) → n ≤ k → status k ≡ Running → status n ≡ Running
  going_before n k le going = at (status n) refl
    where
      at : (t : Status) → status n ≡ t → status n ≡ Running
      at Running e = e
      at (Ended x) e = sym (stays_over n k le (λ r. ended_running (sym e ∙ r))) ∙ going
      at Bad e = sym (stays_over n k le (λ r. bad_running (sym e ∙ r))) ∙ going

  -- and two ends are one
  pub over_once : (a b : ℕ) → status a ≢ Running → status b ≢ Running → status a ≡ status b
  over_once a b over over' = ⊎_elim (λ lt. let le : a ≤ b = omega (arith, lt) in sym (stays_over a b le over)) (λ ge. stays_over b a ge over') (cases_lt a b)
