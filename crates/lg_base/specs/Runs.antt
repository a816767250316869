-- Runs of machines.
use Rattle.std.specs.Prelude.{◌≡◌, ◌≢◌, ℕ, zero, suc, List, ◌++◌}

-- how a run is; Bad is a step that is undefined, or one at which a processor faults
pub data Status : Type 0 where
  Running : Status
  Ended : (status : ℕ) → Status
  Bad : Status

-- a machine by its step: what a state leads to, how it is, and what was written up to it
pub record Machine (S : Type 0) : Type 0 where
  pub step : S → S
  pub status : S → Status
  pub out : S → List ℕ

-- the state after n steps, the last of which is applied last
unfoldable pub iter : {S : Type 0} → (S → S) → ℕ → S → S
iter step zero s = s
iter step (suc n) s = step (iter step n s)

abbrev pub IsPrefixOf : List ℕ → List ℕ → Type 0
IsPrefixOf xs ys = (rest : List ℕ) × (xs ++ rest ≡ ys)

-- a state that is not running stays, and what is written stays written
pub record IsMachine {S : Type 0} (m : Machine S) : Type 0 where
  pub stays : (s : S) → m.status s ≢ Running → m.step s ≡ s
  pub writes : (s : S) → IsPrefixOf (m.out s) (m.out (m.step s))

-- a step that ends or is bad writes nothing
pub record EndsSilently {S : Type 0} (m : Machine S) : Type 0 where
  pub silent_end : (s : S) → m.status (m.step s) ≢ Running → m.out (m.step s) ≡ m.out s
