-- Rewritings that drop nodes which only fall through, and those that thread jumps; and both, one after the other.
use Rattle.std.specs.Prelude.{◌≡◌, ℕ, suc, ◌<◌, Bool, true, false, ◌⊎◌}
use Rattle.lg_base.specs.Runs.{Running, Machine, iter}
use Rattle.lg_opt.specs.Follows.{Follows, IsLoudAt, Turns}

-- the new run steps exactly where the old one is at a node that stays, and is at the first node that stays from the old run's node on; a node that is dropped
-- only falls through
pub record Drops {P N : Type 0} (old : Machine P) (new : Machine N) (p : P) (n : N) (j : ℕ → ℕ) (at : P → ℕ) (place : N → ℕ) (stays : ℕ → Bool)
    (to : ℕ → ℕ) : Type 0 where
  pub follows : Follows old new p n j
  pub steps : (k : ℕ) → old.status (iter old.step k p) ≡ Running → stays (at (iter old.step k p)) ≡ true → j (suc k) ≡ suc (j k)
  pub rests : (k : ℕ) → old.status (iter old.step k p) ≡ Running → stays (at (iter old.step k p)) ≡ false → j (suc k) ≡ j k
  pub here : (k : ℕ) → old.status (iter old.step k p) ≡ Running → place (iter new.step (j k) n) ≡ to (at (iter old.step k p))
  pub falls : (k : ℕ) → stays (at (iter old.step k p)) ≡ false
      → old.status (iter old.step (suc k) p) ≡ Running → at (iter old.step (suc k) p) ≡ suc (at (iter old.step k p))

-- an unconditional jump changes neither status nor output
abbrev pub JumpsQuietly : {P : Type 0} → Machine P → (P → ℕ) → (ℕ → Bool) → Type 0
JumpsQuietly {P} m at jump = (p : P) → jump (at p) ≡ true → (m.status (m.step p) ≡ m.status p) × (m.out (m.step p) ≡ m.out p)

-- threading: besides the turns, the new run steps at each node that is no unconditional jump, and is loud there where the node is
pub record Threads {P N : Type 0} (old : Machine P) (new : Machine N) (p : P) (n : N) (j : ℕ → ℕ) (at : P → ℕ) (jump leap : ℕ → Bool)
    (loud : N → Bool) : Type 0 where
  pub follows : Follows old new p n j
  pub turns : Turns old new p n j at loud
  pub steps : (k : ℕ) → old.status (iter old.step k p) ≡ Running → jump (at (iter old.step k p)) ≡ false → j (suc k) ≡ suc (j k)
  pub kinds : (k : ℕ) → old.status (iter old.step k p) ≡ Running → jump (at (iter old.step k p)) ≡ false
      → loud (iter new.step (j k) n) ≡ leap (at (iter old.step k p))

-- what threading is to bring step by step, while the old run goes on. A jump turns where following the jumps from it never reaches another node; to says of a
-- node of the old run the node of the new one, goal of a jump that does not turn the new node to which it leads in the end, and depth how many jumps there
-- are on the way
pub record Threading {P N : Type 0} (old : Machine P) (new : Machine N) (p : P) (n : N) (j : ℕ → ℕ) (at : P → ℕ) (place : N → ℕ)
    (jump leap turning stays : ℕ → Bool) (to goal depth : ℕ → ℕ) (loud : N → Bool) : Type 0 where
  -- another node than a jump: the new run is there, and steps; it is loud there where the node is, and else goes to the next node
  pub steps : (k : ℕ) → old.status (iter old.step k p) ≡ Running → jump (at (iter old.step k p)) ≡ false → j (suc k) ≡ suc (j k)
  pub kinds : (k : ℕ) → old.status (iter old.step k p) ≡ Running → jump (at (iter old.step k p)) ≡ false
      → loud (iter new.step (j k) n) ≡ leap (at (iter old.step k p))
  pub here : (k : ℕ) → old.status (iter old.step k p) ≡ Running → jump (at (iter old.step k p)) ≡ false
      → place (iter new.step (j k) n) ≡ to (at (iter old.step k p))
  pub next : (k : ℕ) → old.status (iter old.step (suc k) p) ≡ Running → jump (at (iter old.step k p)) ≡ false → leap (at (iter old.step k p)) ≡ false
      → place (iter new.step (j (suc k)) n) ≡ suc (to (at (iter old.step k p)))
  -- a jump that does not turn: the new run steps loudly, or is already where the jump leads; then it is there, and the old run has one jump less before it
  pub leads : (k : ℕ) → old.status (iter old.step k p) ≡ Running → jump (at (iter old.step k p)) ≡ true → turning (at (iter old.step k p)) ≡ false
      → IsLoudAt new n j loud k ⊎ ((j (suc k) ≡ j k) × (place (iter new.step (j k) n) ≡ goal (at (iter old.step k p))))
  pub led : (k : ℕ) → old.status (iter old.step k p) ≡ Running → jump (at (iter old.step k p)) ≡ true → turning (at (iter old.step k p)) ≡ false
      → (place (iter new.step (j (suc k)) n) ≡ goal (at (iter old.step k p))) × (turning (at (iter old.step (suc k) p)) ≡ false)
      × (depth (at (iter old.step (suc k) p)) < depth (at (iter old.step k p)))
  -- a jump that turns: where it stays the new run steps loudly; else it leads forward. After it stands another
  pub turns : (k : ℕ) → old.status (iter old.step k p) ≡ Running → jump (at (iter old.step k p)) ≡ true → turning (at (iter old.step k p)) ≡ true
      → (stays (at (iter old.step k p)) ≡ true → IsLoudAt new n j loud k)
      × (stays (at (iter old.step k p)) ≡ false → (j (suc k) ≡ j k) × (at (iter old.step k p) < at (iter old.step (suc k) p)))
      × (jump (at (iter old.step (suc k) p)) ≡ true) × (turning (at (iter old.step (suc k) p)) ≡ true)
