-- The memory that a run of the portable meaning and one of its code have in common.
use Rattle.std.specs.Prelude.{◌≡◌, ℕ, ◌<◌, ◌⊎◌, Bool, [], Option, Some, length}
use Rattle.lg_base.specs.Parts.{stack_base}
use Rattle.lg_base.specs.Runs.{Status, Running, Machine, IsMachine}
use Rattle.lg_meaning.specs.Means.{run_at}
use Rattle.lg_meaning.specs.Means as mean
use Rattle.lg_meaning.specs.States.{State}
use Rattle.lg_temp.specs.Paces.{KeepsPace}
use Rattle.lg_carry.specs.Processors.{Processor}
use Rattle.lg_carry.specs.FinalNodes.{Code}
use Rattle.lg_carry.specs.Stands.{Stands}
use Rattle.lg_carry.specs.Carries.{Carries}
use Rattle.lg_carry.specs.Ranks.{StandAlike}

-- each byte of the state's memory is the processor's, at the same address: while the run goes on every one, so those of the locals of all its frames too, and
-- after its end those below the stack, in the data part, the argument part and the heap. The heap marks are equal
pub record SharesMemory (status : Status) (s : State) (bytes : ℕ → Option ℕ) (mark : ℕ) : Type 0 where
  pub bytes_are : (a b : ℕ) → (status ≡ Running) ⊎ (a < stack_base) → s.mem a ≡ Some b → bytes a ≡ Some b
  pub mark_is : mark ≡ s.mark

-- the same of a state of a run of the meaning and one of a processor
abbrev pub AlikeInMemory : {M Q : Type 0} → Machine M → (M → State) → Processor Q → M → Q → Type 0
AlikeInMemory m state P p q = SharesMemory (m.status p) (state p) (P.seen q).bytes (P.seen q).mark

-- where the code carries each node, the processor keeps pace with the meaning, with its memory
abbrev pub CarriedRunsKeepPace : {M Q : Type 0} → Machine M → (M → State) → Processor Q → Code → (ℕ → ℕ → Bool) → Type 0
CarriedRunsKeepPace {M} {Q} m state P c before =
    (p : M) (q : Q) → StandAlike m state P c before p q → KeepsPace m P.machine (AlikeInMemory m state P) p q

-- so it does from a state to which the processor corresponds
abbrev pub CodeKeepsPace : {Q : Type 0} → Processor Q → Type 0
CodeKeepsPace {Q} P =
    (c : Code) (before : ℕ → ℕ → Bool) (s : State) (q : Q) → IsMachine P.machine → ((i : ℕ) → i < length c.nodes.nodes → Carries P c before i)
    → Stands P c (λ f. before f.back) s [] q (before s.at)
    → KeepsPace (mean.machine c.nodes c.shape c.addresses) P.machine (AlikeInMemory (mean.machine c.nodes c.shape c.addresses) (λ r. r.state) P) (run_at s []) q
