-- Steps of RV64 and the bytes that they touch.
use Rattle.std.specs.Prelude.{◌≡◌, ℕ, ◌^◌, ◌<◌, Bool, List, None}
use Rattle.lg_base.specs.HostNames.{host_by_address}
use Rattle.lg_cpu.specs.Laws.{AreBytes}
use Rattle.lg_cpu.specs.States.{CpuState}
use Rattle.lg_cpu.specs.Steps.{Run}
use Rattle.lg_carry.specs.Disturbed.{hidden_in, Overlooks, IsAlike, LeavesAlone, Patches}
use Rattle.lg_carry.specs.Processors.{IsOff}
use Rattle.lg_selr_values.specs.Processor.RvRows.{rv_processor}
use Rattle.lg_selr_values.specs.Processor.RvTouched.{touched_at}

-- a step leaves alone all that it does not touch
abbrev pub StepsLeave : Type 0
StepsLeave =
    (code : List ℕ) (trash : ℕ) (q : Run CpuState) (hidden : ℕ → Bool) → AreBytes code → trash < 2 ^ 64 → q.state.pc < 2 ^ 64
    → host_by_address q.state.pc ≡ None → IsOff hidden (touched_at code q.state.pc q.state.registers) → LeavesAlone (rv_processor code trash) hidden q

-- and one that touches nothing below the stack pointer overlooks what is there
abbrev pub StepsOverlook : Type 0
StepsOverlook =
    (code : List ℕ) (trash : ℕ) (q : Run CpuState) → AreBytes code → trash < 2 ^ 64 → q.state.pc < 2 ^ 64 → host_by_address q.state.pc ≡ None
    → IsOff (hidden_in (rv_processor code trash) q) (touched_at code q.state.pc q.state.registers) → Overlooks (rv_processor code trash) q

-- a step leads from what looks the same to what looks the same, a host function's too
abbrev pub StepsAreAlike : Type 0
StepsAreAlike = (code : List ℕ) (trash : ℕ) (q : Run CpuState) → IsAlike (rv_processor code trash) q

-- there is a state with any other bytes
abbrev pub StatesArePatched : Type 0
StatesArePatched = (code : List ℕ) (trash : ℕ) → Patches (rv_processor code trash)
