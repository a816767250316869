-- What a run of the meaning and one of its code have in common, besides status and output, from the entry to the end.
use Rattle.std.specs.Prelude.{◌≡◌, ◌≢◌, ℕ, Bool, true, Some, length, ◌<◌}
use Rattle.lg_base.specs.Conventions.{is_kept, stack_register}
use Rattle.lg_base.specs.HostNames.{host_by_address}
use Rattle.lg_base.specs.Runs.{IsMachine}
use Rattle.lg_base.specs.declared.host_name.HostName.{HostName}
use Rattle.lg_base.specs.declared.target.Target.{Target}
use Rattle.lg_meaning.specs.Means as mean
use Rattle.lg_meaning.specs.Steps.{Ending}
use Rattle.lg_temp.specs.Paces.{KeepsPace}
use Rattle.lg_carry.specs.Carries.{Carries}
use Rattle.lg_carry.specs.FinalNodes.{Code}
use Rattle.lg_carry.specs.Memories.{SharesMemory}
use Rattle.lg_carry.specs.Outer.{HasEnded}
use Rattle.lg_carry.specs.Outside.{is_outside}
use Rattle.lg_carry.specs.Processors.{Processor}
use Rattle.lg_carry.specs.Ranks.{StandAlike}
use Rattle.lg_carry.specs.Stands.{HasParts}

-- a step at the entry of a host function keeps the registers that a call keeps, but for the stack pointer
abbrev pub HostsKeep : {Q : Type 0} → Processor Q → Type 0
HostsKeep {Q} P =
    (q : Q) (name : HostName) (r : ℕ) → host_by_address (P.seen q).pc ≡ Some name → is_kept P.target r ≡ true → r ≢ stack_register P.target
    → (P.seen (P.machine.step q)).registers r ≡ (P.seen q).registers r

-- a register that a call keeps, and that no code of a node writes
pub record IsUnwritten (target : Target) (r : ℕ) : Type 0 where
  pub kept : is_kept target r ≡ true
  pub other : r ≢ stack_register target
  pub outside : (moves : Bool) → is_outside target moves r ≡ true

-- the processor has the memory of the meaning, and nothing else between the data and the heap; where the run has ended it is as that asks; and registers that no
-- code writes hold what they held at the entry
pub record AreAlike {Q : Type 0} (P : Processor Q) (c : Code) (r : mean.Run) (q : Q) : Type 0 where
  pub memory : SharesMemory r.status r.state (P.seen q).bytes (P.seen q).mark
  pub parts : HasParts r.state (P.seen q).bytes
  pub ended : (e : Ending) → mean.ending_of r ≡ Some e → HasEnded P.target c e (P.seen q)
  pub unwritten : (x : ℕ) → IsUnwritten P.target x → (P.seen q).registers x ≡ c.outer x

-- where the code carries each node, the processor keeps pace with the meaning so, from all states that correspond to each other
abbrev pub CarriedRunsEndAlike : {Q : Type 0} → Processor Q → Type 0
CarriedRunsEndAlike {Q} P =
    (c : Code) (before : ℕ → ℕ → Bool) (p : mean.Run) (q : Q) → IsMachine P.machine → HostsKeep P → ((i : ℕ) → i < length c.nodes.nodes → Carries P c before i)
    → StandAlike (mean.machine c.nodes c.shape c.addresses) (λ r. r.state) P c before p q
    → ((x : ℕ) → IsUnwritten P.target x → (P.seen q).registers x ≡ c.outer x)
    → KeepsPace (mean.machine c.nodes c.shape c.addresses) P.machine (AreAlike P c) p q
