-- The state of a processor, one record for every target.
use Rattle.std.specs.Prelude.{ℕ, [], Option}
use Rattle.lg_base.specs.declared.flags.Flags.{Flags}
use Rattle.lg_cpu.specs.Steps.{Effect, arrived}

-- the program counter, the registers by their numbers, the flags, the bytes of the memory by their addresses, and the heap mark
pub record CpuState : Type 0 where
  pub pc : ℕ
  pub registers : ℕ → ℕ
  pub flags : Flags
  pub bytes : ℕ → Option ℕ
  pub mark : ℕ

-- the run goes on at an address, or has ended there
abbrev pub arrives : ℕ → (ℕ → ℕ) → Flags → (ℕ → Option ℕ) → ℕ → Effect CpuState
arrives pc registers flags bytes mark =
    record { to = record { pc = pc; registers = registers; flags = flags; bytes = bytes; mark = mark }; progress = arrived pc; written = [] }

-- and nothing else changes
abbrev pub goes_on : CpuState → ℕ → Effect CpuState
goes_on q pc = arrives pc q.registers q.flags q.bytes q.mark
