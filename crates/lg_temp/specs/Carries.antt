-- What one portable step is carried to, and what two states that correspond to each other have.
use Rattle.std.specs.Prelude.{◌≡◌, ℕ, ◌<◌, ◌≤◌, ◌⊎◌}
use Rattle.lg_base.specs.Runs.{Running, Ended, Bad, Machine, iter}

-- both run, with one output; the rank, at most the number of nodes, is how many portable steps in a row
-- can be matched by no step of the processor
pub record Standing {P Q : Type 0} (portable : Machine P) (processor : Machine Q) (nodes : ℕ) (p : P) (q : Q) (rank : ℕ) : Type 0 where
  pub goes : portable.status p ≡ Running
  pub runs : processor.status q ≡ Running
  pub out : processor.out q ≡ portable.out p
  pub low : rank ≤ nodes

-- at most 64 steps of the processor lead to where the portable step leads: to the same end, or to states
-- that correspond to each other. No step is made only where the rank falls. On the way the output is that
-- before the portable step or that after it
pub record Lands {P Q : Type 0} (portable : Machine P) (processor : Machine Q) (stands : P → Q → ℕ → Type 0) (p : P) (q : Q) (rank : ℕ) : Type 0 where
  pub steps : ℕ
  pub few : steps ≤ 64
  pub way : (i : ℕ) → i < steps → (processor.out (iter processor.step i q) ≡ portable.out p)
      ⊎ (processor.out (iter processor.step i q) ≡ portable.out (portable.step p))
  pub there : ((s : ℕ) × (portable.status (portable.step p) ≡ Ended s) × (processor.status (iter processor.step steps q) ≡ Ended s)
      × (processor.out (iter processor.step steps q) ≡ portable.out (portable.step p)))
      ⊎ ((next : ℕ) × stands (portable.step p) (iter processor.step steps q) next × ((steps ≡ 0 → next < rank)))

-- the portable step is undefined, or it is carried
abbrev pub Carries : {P Q : Type 0} → Machine P → Machine Q → (P → Q → ℕ → Type 0) → P → Q → ℕ → Type 0
Carries portable processor stands p q rank = (portable.status (portable.step p) ≡ Bad) ⊎ Lands portable processor stands p q rank
