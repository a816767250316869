-- When the run of a processor agrees with the portable meaning. Both are machines: p is a state of the
-- portable one, q one of the processor.
use Rattle.std.specs.Prelude.{◌≡◌, ◌≢◌, ℕ, ◌+◌, ◌*◌, ◌/◌, ◌≤◌, ◌⊎◌}
use Rattle.lg_base.specs.Runs.{Bad, Machine, iter, IsPrefixOf}

-- neither is bad, and both have one output and one status
pub record SameAt {P Q : Type 0} (portable : Machine P) (processor : Machine Q) (p : P) (q : Q) : Type 0 where
  pub sound : processor.status q ≢ Bad
  pub status : processor.status q ≡ portable.status p
  pub out : processor.out q ≡ portable.out p

-- the meaning is undefined, and all that it has written was written
pub record PastIt {P Q : Type 0} (portable : Machine P) (processor : Machine Q) (p : P) (q : Q) : Type 0 where
  pub bad : portable.status p ≡ Bad
  pub out : IsPrefixOf (portable.out p) (processor.out q)

-- after n steps of the processor there is a number k of portable steps, at least a sixty-fourth of n and
-- at most (n + 1) * (nodes + 1), after which they agree, or the meaning is undefined
abbrev pub AgreesAt : {P Q : Type 0} → Machine P → Machine Q → ℕ → P → Q → ℕ → Type 0
AgreesAt portable processor nodes p q n =
    (k : ℕ) × (n / 64 ≤ k) × (k ≤ (n + 1) * (nodes + 1))
    × (SameAt portable processor (iter portable.step k p) (iter processor.step n q)
    ⊎ PastIt portable processor (iter portable.step k p) (iter processor.step n q))
