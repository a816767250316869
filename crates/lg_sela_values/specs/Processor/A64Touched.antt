-- The bytes that an instruction of AArch64 loads or stores.
use Rattle.std.specs.Prelude.{ℕ, ◌-◌, ◌*◌, List, drop, Option, Some, None}
use Rattle.lg_base.specs.Fields.{word_of}
use Rattle.lg_base.specs.Layout.{code_base}
use Rattle.lg_base.specs.Words.{add_words}
use Rattle.lg_a64.specs.Reading.{front_of}
use Rattle.lg_a64.specs.declared.instruction.Instr.{Instr}
use Rattle.lg_a64.specs.declared.instruction.Instr.TheVariants.{Scaled, Ldrx, Unscaled}
use Rattle.lg_cpu.specs.A64Step.{read, scaled_width}
use Rattle.lg_carry.specs.Processors.{Span, nothing}

-- by the words of the registers
abbrev pub touched : Instr → (ℕ → ℕ) → Span
touched (Scaled op rt rn imm) w = record { from = add_words (w rn) (imm * scaled_width op); width = scaled_width op }
touched (Ldrx rt rn rm) w = record { from = add_words (w rn) (read w rm); width = 8 }
touched (Unscaled op rt rn imm) w = record { from = add_words (w rn) (word_of imm); width = 8 }
touched i w = nothing

-- of the instruction that is at the front of bytes, if one does
abbrev pub touched_by : Option (Instr × ℕ) → (ℕ → ℕ) → Span
touched_by None w = nothing
touched_by (Some (i, len)) w = touched i w

-- of what is at an address of the code
abbrev pub touched_at : List ℕ → ℕ → (ℕ → ℕ) → Span
touched_at code pc w = touched_by (front_of (drop (pc - code_base) code)) w
