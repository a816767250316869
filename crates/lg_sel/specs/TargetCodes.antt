-- What a target gives to the promises of its code: its processor, and its own words for instructions, stores and the forms of what leads to a label.
use Rattle.std.specs.Prelude.{ℕ, List}
use Rattle.lg_base.specs.declared.target.Target.{Target}
use Rattle.lg_carry.specs.Processors.{Processor}
use Rattle.lg_cpu.specs.States.{CpuState}
use Rattle.lg_cpu.specs.Steps.{Run}
use Rattle.lg_sel.specs.declared.reach.Reach.{Reach}

pub record TargetCode : Type 1 where
  pub target : Target
  -- the processor that runs this code, with the word that registers hold which nothing has set
  pub processor : List ℕ → ℕ → Processor (Run CpuState)
  -- bytes are whole instructions
  pub are_instructions : List ℕ → Type 0
  -- and at most this many of these store
  pub store_at_most : ℕ → List ℕ → Type 0
  -- what leads back to a goal, from bytes that begin at a place: a branch, a jump and a call
  pub branches_back : ℕ → ℕ → List ℕ → Type 0
  pub jumps_back : ℕ → ℕ → List ℕ → Type 0
  pub calls_back : ℕ → ℕ → List ℕ → Type 0
  -- and ahead with a reach
  pub branches_ahead : Reach → ℕ → List ℕ → Type 0
  pub jumps_ahead : Reach → ℕ → List ℕ → Type 0
  pub calls_ahead : Reach → ℕ → List ℕ → Type 0
