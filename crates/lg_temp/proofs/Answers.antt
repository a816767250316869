-- What the agreement says of the answers of a run.
use Rattle.std.proofs.Common.{◌≡◌, ◌≢◌, ℕ, ◌+◌, ◌*◌, ◌≤◌, inl, inr, sym, ap, ◌∙◌, arith}
use Rattle.lg_base.specs.Runs.{Running, Ended, Bad, Machine, iter, IsMachine}
use Rattle.lg_temp.specs.Agrees.{AgreesAt}
use Rattle.lg_temp.proofs.Steps.{iter-after}

-- where the meaning ends with s after m steps, the run has ended with s after 64 * m
pub ends_in_time : {P Q : Type 0} (portable : Machine P) (processor : Machine Q) (nodes n m s : ℕ) (p : P) (q : Q) → IsMachine portable → AgreesAt portable processor nodes p q n
    → portable.status (iter portable.step m p) ≡ Ended s → 64 * m ≤ n → processor.status (iter processor.step n q) ≡ Ended s
ends_in_time portable processor nodes n m s p q is_p agreed ended le =
    let low : m ≤ agreed.0 = omega (arith, agreed.1) in
    let over : portable.status (iter portable.step m p) ≢ Running = λ r. cc in
    let same = iter-after portable is_p m agreed.0 p low over in
    let still : portable.status (iter portable.step agreed.0 p) ≡ Ended s = ap portable.status same ∙ ended in
    elim agreed.3 [
      | inl h ↦ h.status ∙ still
      | inr h ↦ absurd (ended_bad (sym still ∙ h.bad))
    ]
  where
    ended_bad : Ended s ≡ Bad → ⊥
    ended_bad e = cc

-- where the run is bad, the meaning is undefined at some step
pub fault_cause : {P Q : Type 0} (portable : Machine P) (processor : Machine Q) (nodes n : ℕ) (p : P) (q : Q) → AgreesAt portable processor nodes p q n
    → processor.status (iter processor.step n q) ≡ Bad → (k : ℕ) × (k ≤ (n + 1) * (nodes + 1)) × (portable.status (iter portable.step k p) ≡ Bad)
fault_cause portable processor nodes n p q agreed bad = elim agreed.3 [
  | inl h ↦ absurd (h.sound bad)
  | inr h ↦ (agreed.0, agreed.2, h.bad)
]
