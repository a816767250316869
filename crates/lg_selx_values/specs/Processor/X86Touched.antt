-- The bytes that an instruction of x86-64 loads or stores.
use Rattle.std.specs.Prelude.{ℕ, ◌-◌, List, drop, Option, Some, None}
use Rattle.lg_base.specs.Fields.{word_of}
use Rattle.lg_base.specs.Layout.{code_base}
use Rattle.lg_base.specs.Words.{add_words, sub_words}
use Rattle.lg_x86.specs.Reading.{front_of}
use Rattle.lg_x86.specs.declared.instruction.Instr.{Instr}
use Rattle.lg_x86.specs.declared.instruction.Instr.TheVariants.{Load, Store, Stack, JumpNear, JumpReg, Bare}
use Rattle.lg_x86.specs.declared.instruction.StackOp.TheVariants.{Push, Pop}
use Rattle.lg_x86.specs.declared.instruction.JumpNearOp.TheVariants.{Call32}
use Rattle.lg_x86.specs.declared.instruction.JumpRegOp.TheVariants.{Callr}
use Rattle.lg_x86.specs.declared.instruction.BareOp.TheVariants.{Ret}
use Rattle.lg_cpu.specs.X86Step.{load_width, store_width}
use Rattle.lg_carry.specs.Processors.{Span, nothing}

-- the word at rsp, register 4, and that below it
abbrev pub top : (ℕ → ℕ) → Span
top w = record { from = w 4; width = 8 }

abbrev pub beneath : (ℕ → ℕ) → Span
beneath w = record { from = sub_words (w 4) 8; width = 8 }

-- by the words of the registers; lea loads nothing
abbrev pub touched : Instr → (ℕ → ℕ) → Span
touched (Load op reg base disp) w = record { from = add_words (w base) (word_of disp); width = load_width op }
touched (Store op base disp reg) w = record { from = add_words (w base) (word_of disp); width = store_width op }
touched (Stack Push reg) w = beneath w
touched (Stack Pop reg) w = top w
touched (JumpNear Call32 distance) w = beneath w
touched (JumpReg Callr rm) w = beneath w
touched (Bare Ret) w = top w
touched i w = nothing

-- of the instruction that is at the front of bytes, if one does
abbrev pub touched_by : Option (Instr × ℕ) → (ℕ → ℕ) → Span
touched_by None w = nothing
touched_by (Some (i, len)) w = touched i w

-- of what is at an address of the code
abbrev pub touched_at : List ℕ → ℕ → (ℕ → ℕ) → Span
touched_at code pc w = touched_by (front_of (drop (pc - code_base) code)) w
