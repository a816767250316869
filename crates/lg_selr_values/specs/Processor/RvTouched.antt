-- The bytes that an instruction of RV64 loads or stores.
use Rattle.std.specs.Prelude.{ℕ, ◌-◌, List, drop, Option, Some, None}
use Rattle.lg_base.specs.Fields.{word_of}
use Rattle.lg_base.specs.Layout.{code_base}
use Rattle.lg_base.specs.Words.{add_words}
use Rattle.lg_rv.specs.Reading.{front_of}
use Rattle.lg_rv.specs.declared.instruction.Instr.{Instr}
use Rattle.lg_rv.specs.declared.instruction.Instr.TheVariants.{Imm, Store}
use Rattle.lg_rv.specs.declared.instruction.ImmOp.{ImmOp}
use Rattle.lg_rv.specs.declared.instruction.ImmOp.TheVariants.{Lb, Lh, Lw, Ld, Lbu, Lhu, Lwu}
use Rattle.lg_cpu.specs.RvStep.{read, store_width}
use Rattle.lg_carry.specs.Processors.{Span, nothing}

abbrev pub load_width : ImmOp → ℕ
load_width Lb = 1
load_width Lh = 2
load_width Lw = 4
load_width Ld = 8
load_width Lbu = 1
load_width Lhu = 2
load_width Lwu = 4
load_width op = 0

-- by the words of the registers
abbrev pub touched : Instr → (ℕ → ℕ) → Span
touched (Imm op rd rs1 imm) w = record { from = add_words (read w rs1) (word_of imm); width = load_width op }
touched (Store op rs1 rs2 imm) w = record { from = add_words (read w rs1) (word_of imm); width = store_width op }
touched i w = nothing

-- of the instruction that is at the front of bytes, if one does
abbrev pub touched_by : Option (Instr × ℕ) → (ℕ → ℕ) → Span
touched_by None w = nothing
touched_by (Some (i, len)) w = touched i w

-- of what is at an address of the code
abbrev pub touched_at : List ℕ → ℕ → (ℕ → ℕ) → Span
touched_at code pc w = touched_by (front_of (drop (pc - code_base) code)) w
