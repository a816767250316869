-- When the run of rewritten nodes follows that of the nodes that they were rewritten from.
use Rattle.std.specs.Prelude.{◌≡◌, ◌≢◌, ℕ, suc, ◌<◌, ◌≤◌, Bool, true, ◌⊎◌}
use Rattle.lg_base.specs.Runs.{Running, Bad, Machine, iter}

-- after k steps of the old run the new run is looked at after j k steps: j begins at 0 and rises by 0 or 1; and while the old run is not
-- undefined, both have one status and one output
pub record Follows {P N : Type 0} (old : Machine P) (new : Machine N) (p : P) (n : N) (j : ℕ → ℕ) : Type 0 where
  pub start : j 0 ≡ 0
  pub rises : (k : ℕ) → (j (suc k) ≡ j k) ⊎ (j (suc k) ≡ suc (j k))
  pub status : (k : ℕ) → old.status (iter old.step k p) ≢ Bad → new.status (iter new.step (j k) n) ≡ old.status (iter old.step k p)
  pub out : (k : ℕ) → old.status (iter old.step k p) ≢ Bad → new.out (iter new.step (j k) n) ≡ old.out (iter old.step k p)

-- what is looked at of the new run is what is looked at of the old one, while that is not undefined
abbrev pub LooksAlike : {P N A : Type 0} → Machine P → Machine N → P → N → (ℕ → ℕ) → (P → A) → (N → A) → Type 0
LooksAlike old new p n j look see = (k : ℕ) → old.status (iter old.step k p) ≢ Bad → see (iter new.step (j k) n) ≡ look (iter old.step k p)

-- at step k of the old run, the new run makes a step from a loud state; loud are those at a branch, jump, call or return
abbrev pub IsLoudAt : {N : Type 0} → Machine N → N → (ℕ → ℕ) → (N → Bool) → ℕ → Type 0
IsLoudAt new n j loud k = (j (suc k) ≡ suc (j k)) × (loud (iter new.step (j k) n) ≡ true)

-- between two times at which the old run is at one node, some step is loud: one after the first of them, up to that at the second
abbrev pub Turns : {P N : Type 0} → Machine P → Machine N → P → N → (ℕ → ℕ) → (P → ℕ) → (N → Bool) → Type 0
Turns old new p n j at loud =
    (x y : ℕ) → x < y → at (iter old.step x p) ≡ at (iter old.step y p) → old.status (iter old.step y p) ≡ Running
    → (c : ℕ) × (x < c) × (c ≤ y) × IsLoudAt new n j loud c

-- the new run follows the old one, and turns with it
pub record IsFollowed {P N : Type 0} (old : Machine P) (new : Machine N) (p : P) (n : N) (at : P → ℕ) (loud : N → Bool) : Type 0 where
  pub j : ℕ → ℕ
  pub follows : Follows old new p n j
  pub turns : Turns old new p n j at loud
