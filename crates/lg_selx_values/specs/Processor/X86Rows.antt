-- The x86-64 processor by its instructions.
use Rattle.std.specs.Prelude.{ℕ, ◌+◌, ◌*◌, ◌==◌, ◌≤◌, ◌<◌, ◌^◌, ◌&&◌, not, nat_lt, Bool, true, false, ℤ, negsuc, List, length}
use Rattle.lg_base.specs.Layout.{most_code}
use Rattle.lg_base.specs.declared.target.Target.TheVariants.{X86_64}
use Rattle.lg_x86.specs.Spelling.{spelling, IsInstr}
use Rattle.lg_x86.specs.declared.instruction.Instr.{Instr}
use Rattle.lg_x86.specs.declared.instruction.Instr.TheVariants.{Load, Store, JumpIfShort, JumpIfNear, JumpShort, JumpNear, JumpReg, Bare}
use Rattle.lg_x86.specs.declared.instruction.LoadOp.TheVariants.{Ld64}
use Rattle.lg_x86.specs.declared.instruction.StoreOp.TheVariants.{St64}
use Rattle.lg_x86.specs.declared.instruction.BareOp.TheVariants.{Ret}
use Rattle.lg_cpu.specs.Laws.{AreBytes}
use Rattle.lg_cpu.specs.States.{CpuState}
use Rattle.lg_cpu.specs.Steps.{Run, stepped, machine}
use Rattle.lg_cpu.specs.X86Step.{act, effect}
use Rattle.lg_carry.specs.Processors.{Seen, Processor, IsOff, is_below}
use Rattle.lg_carry.specs.Rows.{Rows, AreRows}
use Rattle.lg_carry.specs.Spills.{AreSpills}
use Rattle.lg_selx_values.specs.Processor.X86Touched.{touched, touched_at}

abbrev pub x86_seen : Run CpuState → Seen
x86_seen r = record { pc = r.state.pc; registers = r.state.registers; bytes = r.state.bytes; mark = r.state.mark; flags = r.state.flags }

abbrev pub x86_processor : List ℕ → ℕ → Processor (Run CpuState)
x86_processor code trash = record { target = X86_64; machine = machine (effect code trash); seen = x86_seen; touches = touched_at code }

-- jumps, calls and returns need not go on to the next instruction
abbrev pub is_straight : Instr → Bool
is_straight (JumpIfShort cond distance) = false
is_straight (JumpIfNear cond distance) = false
is_straight (JumpShort distance) = false
is_straight (JumpNear op distance) = false
is_straight (JumpReg op rm) = false
is_straight (Bare Ret) = false
is_straight i = true

-- what an instruction does to a run that goes on
abbrev pub x86_does : Instr → Run CpuState → Run CpuState
x86_does i = stepped (act i (length (spelling i)))

-- an instruction touches nothing below the stack pointer and its zone
abbrev pub acts_above : Instr → CpuState → Type 0
acts_above i s = IsOff (is_below X86_64 (s.registers 4)) (touched i s.registers)

abbrev pub x86_above : Instr → Run CpuState → Type 0
x86_above i r = acts_above i r.state

-- the displacement of a spill slot from FP, rbp
abbrev pub slot_offset : ℕ → ℤ
slot_offset k = negsuc (95 + 8 * k)

-- every register but FP, rbp
abbrev pub can_save : ℕ → Bool
can_save r = nat_lt r 16 && not (r == 5)

-- an instruction may be anywhere
abbrev pub x86_rows : List ℕ → ℕ → Rows (Run CpuState) Instr
x86_rows code trash = record {
  processor = x86_processor code trash;
  code = code;
  is_place = λ pc. true;
  spelling = spelling;
  is_straight = is_straight;
  does = x86_does;
  touches = touched;
  can_save = can_save;
  save = λ r k. Store St64 5 (slot_offset k) r;
  restore = λ r k. Load Ld64 r 5 (slot_offset k);
}

abbrev pub InstructionsAreRows : Type 0
InstructionsAreRows = (code : List ℕ) (trash : ℕ) → length code ≤ most_code → AreBytes code → trash < 2 ^ 64 → AreRows (x86_rows code trash) IsInstr

abbrev pub InstructionsAreSpills : Type 0
InstructionsAreSpills = (code : List ℕ) (trash : ℕ) → AreSpills (x86_rows code trash)
