-- x86-64 as a target: its scratch registers, and its instructions that only compute and never fault.
use Rattle.std.specs.Prelude.{ℕ, ◌^◌, ◌<◌, ◌≤◌, Bool, true, false, List, length, Option, Some, None}
use Rattle.lg_base.specs.Layout.{most_code}
use Rattle.lg_x86.specs.Spelling.{IsInstr}
use Rattle.lg_x86.specs.declared.instruction.Instr.{Instr}
use Rattle.lg_x86.specs.declared.instruction.Instr.TheVariants.{RmReg, Imm, RegRm, Load, Lea2, Movi32, Movs32, Movi64, Unary, Shift, Bswap, Bare}
use Rattle.lg_x86.specs.declared.instruction.BareOp.TheVariants.{Cqo, Nop}
use Rattle.lg_x86.specs.declared.instruction.LoadOp.TheVariants.{Lea}
use Rattle.lg_x86.specs.declared.instruction.RmRegOp.{RmRegOp}
use Rattle.lg_x86.specs.declared.instruction.RmRegOp.TheVariants as alu
use Rattle.lg_x86.specs.declared.instruction.UnaryOp.{UnaryOp}
use Rattle.lg_x86.specs.declared.instruction.UnaryOp.TheVariants.{Div, Idiv}
use Rattle.lg_cpu.specs.Laws.{AreBytes}
use Rattle.lg_cpu.specs.States.{CpuState}
use Rattle.lg_cpu.specs.Steps.{Run}
use Rattle.lg_cpu.specs.X86Operators.{alu_of}
use Rattle.lg_cpu.specs.X86Step.{Scene, made}
use Rattle.lg_carry.specs.Nodes.Isas.{IsIsa}
use Rattle.lg_carry.specs.Values.Computers.{Held, Computer, IsComputer}
use Rattle.lg_selx_values.specs.Processor.X86Rows.{x86_rows}

-- no register holds nothing that is needed after a `prolog`: code that spoils FP makes it again from the stack pointer
abbrev pub x86_scratch : ℕ → Bool
x86_scratch x = false

abbrev pub InstructionsAreIsa : Type 0
InstructionsAreIsa = (code : List ℕ) (trash : ℕ) → length code ≤ most_code → AreBytes code → trash < 2 ^ 64 → IsIsa (x86_rows code trash) x86_scratch IsInstr

-- ---- instructions that only compute
-- the rows that do not read the carry, which may be undefined
abbrev pub reads_no_carry : RmRegOp → Bool
reads_no_carry alu.Adc = false
reads_no_carry alu.Sbb = false
reads_no_carry op = true

-- those that do not divide
abbrev pub divides_not : UnaryOp → Bool
divides_not Div = false
divides_not Idiv = false
divides_not op = true

-- all but those that load, store, jump, read flags or divide
abbrev pub computes : Instr → Bool
computes (RmReg op rm reg) = reads_no_carry op
computes (Imm op rm imm) = reads_no_carry (alu_of op)
computes (RegRm op reg rm) = true
computes (Load Lea reg base disp) = true
computes (Lea2 reg base index) = true
computes (Movi32 reg imm) = true
computes (Movs32 rm imm) = true
computes (Movi64 reg imm) = true
computes (Unary op rm) = divides_not op
computes (Shift op rm count) = true
computes (Bswap reg) = true
computes (Bare Cqo) = true
computes (Bare Nop) = true
computes i = false

-- what is held, as a scene over no memory
abbrev pub bare : Held → Scene
bare w = record { registers = w.registers; flags = w.flags; bytes = λ a. None }

-- what is held of a scene; what was held, where there is none
abbrev pub held_of : Held → Option Scene → Held
held_of w None = w
held_of w (Some s) = record { registers = s.registers; flags = s.flags }

-- flags may become undefined
abbrev pub held_by : Instr → Held → Held
held_by i w = held_of w (made i (bare w))

abbrev pub x86_computer : List ℕ → ℕ → Computer (Run CpuState) Instr
x86_computer code trash = record { rows = x86_rows code trash; computes = computes; computed_by = held_by }

abbrev pub InstructionsCompute : Type 0
InstructionsCompute = (code : List ℕ) (trash : ℕ) → IsComputer (x86_computer code trash)
