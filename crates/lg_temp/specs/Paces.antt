-- When a processor keeps pace with the portable meaning. Both are machines: p is a state of the portable one, q one of the processor; what is
-- asked of two states that stand alike, besides their status and their output, is for the user to say: their memory, say.
use Rattle.std.specs.Prelude.{◌≡◌, ◌≢◌, ℕ, suc, ◌+◌, ◌≤◌, ◌⊎◌}
use Rattle.lg_base.specs.Runs.{Running, Ended, Bad, Machine, iter}
use Rattle.lg_temp.specs.Agrees.{SameAt}

-- after each number k of portable steps there is a number of the processor's steps, its pace, after which both stand alike, until the meaning is
-- undefined. The pace begins at 0 and rises by at most 64 with each portable step
pub record KeepsPace {P Q : Type 0} (portable : Machine P) (processor : Machine Q) (Alike : P → Q → Type 0) (p : P) (q : Q) : Type 0 where
  pub pace : ℕ → ℕ
  pub start : pace 0 ≡ 0
  pub rises : (k : ℕ) → (pace k ≤ pace (suc k)) × (pace (suc k) ≤ pace k + 64)
  pub same : (k : ℕ) → portable.status (iter portable.step k p) ≢ Bad
      → SameAt portable processor (iter portable.step k p) (iter processor.step (pace k) q)
  pub alike : (k : ℕ) → portable.status (iter portable.step k p) ≢ Bad → Alike (iter portable.step k p) (iter processor.step (pace k) q)

-- where the processor has ended, the meaning has ended too after some number of steps, with that status, and both are alike; or it has become
-- undefined
abbrev pub EndsAlike : {P Q : Type 0} → Machine P → Machine Q → (P → Q → Type 0) → P → Q → Type 0
EndsAlike portable processor Alike p q =
    (n status : ℕ) → processor.status (iter processor.step n q) ≡ Ended status
    → (k : ℕ) × (((portable.status (iter portable.step k p) ≡ Ended status) × Alike (iter portable.step k p) (iter processor.step n q))
    ⊎ (portable.status (iter portable.step k p) ≡ Bad))

-- states that correspond to each other run, with one output, and are alike
pub record StandingAlike {P Q : Type 0} (portable : Machine P) (processor : Machine Q) (Alike : P → Q → Type 0) (p : P) (q : Q) : Type 0 where
  pub goes : portable.status p ≡ Running
  pub runs : processor.status q ≡ Running
  pub out : processor.out q ≡ portable.out p
  pub alike : Alike p q

-- at most 64 steps of the processor lead to where the portable step leads: to the same end, alike, or to states that correspond to each other
pub record LandsAlike {P Q : Type 0} (portable : Machine P) (processor : Machine Q) (Alike : P → Q → Type 0) (stands : P → Q → Type 0) (p : P) (q : Q)
    : Type 0 where
  pub steps : ℕ
  pub few : steps ≤ 64
  pub there : ((status : ℕ) × (portable.status (portable.step p) ≡ Ended status) × (processor.status (iter processor.step steps q) ≡ Ended status)
      × (processor.out (iter processor.step steps q) ≡ portable.out (portable.step p)) × Alike (portable.step p) (iter processor.step steps q))
      ⊎ stands (portable.step p) (iter processor.step steps q)

-- the portable step is undefined, or it is carried
abbrev pub CarriesAlike : {P Q : Type 0} → Machine P → Machine Q → (P → Q → Type 0) → (P → Q → Type 0) → P → Q → Type 0
CarriesAlike portable processor Alike stands p q = (portable.status (portable.step p) ≡ Bad) ⊎ LandsAlike portable processor Alike stands p q
