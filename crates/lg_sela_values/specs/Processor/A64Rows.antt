-- The AArch64 processor by its instructions.
use Rattle.std.specs.Prelude.{ℕ, ◌+◌, ◌*◌, ◌%◌, ◌==◌, ◌≤◌, ◌&&◌, not, nat_lt, Bool, true, false, ℤ, negsuc, List, length, ◌<◌, ◌^◌}
use Rattle.lg_base.specs.Conventions.{frame_register, stack_register}
use Rattle.lg_base.specs.Layout.{most_code}
use Rattle.lg_base.specs.declared.flags.Flags.{Flags}
use Rattle.lg_base.specs.declared.flags.Flags.TheVariants.{Nzcv}
use Rattle.lg_base.specs.declared.target.Target.TheVariants.{Aarch64}
use Rattle.lg_a64.specs.Spelling.{spelling, IsInstr}
use Rattle.lg_a64.specs.declared.instruction.Instr.{Instr}
use Rattle.lg_a64.specs.declared.instruction.Instr.TheVariants.{Unscaled, Branch, BranchIf, BranchReg}
use Rattle.lg_a64.specs.declared.instruction.UnscaledOp.TheVariants.{Ldur, Stur}
use Rattle.lg_cpu.specs.Laws.{AreBytes}
use Rattle.lg_cpu.specs.Steps.{Run, stepped, machine}
use Rattle.lg_cpu.specs.States.{CpuState}
use Rattle.lg_base.specs.Flags.{negative_flag, zero_flag, carry_flag, overflow_flag}
use Rattle.lg_cpu.specs.A64Step.{act, effect}
use Rattle.lg_carry.specs.Processors.{Seen, Processor, IsOff, is_below}
use Rattle.lg_carry.specs.Rows.{Rows, AreRows}
use Rattle.lg_carry.specs.Spills.{AreSpills}
use Rattle.lg_sela_values.specs.Processor.A64Touched.{touched, touched_at}

-- ---- registers
-- FP, x29
abbrev pub frame_pointer : ℕ
frame_pointer = frame_register Aarch64

-- 31 is the stack pointer as the base of an address and where a number is added, and else reads as 0 and is not written
abbrev pub stack_pointer : ℕ
stack_pointer = stack_register Aarch64

abbrev pub zero_register : ℕ
zero_register = stack_pointer

-- the link, x30
abbrev pub link : ℕ
link = 30

-- ---- the processor
-- the flags as a processor of this kind has them
abbrev pub nzcv : Flags → Flags
nzcv f = Nzcv (negative_flag f) (zero_flag f) (carry_flag f) (overflow_flag f)

abbrev pub a64_seen : Run CpuState → Seen
a64_seen r = record { pc = r.state.pc; registers = r.state.registers; bytes = r.state.bytes; mark = r.state.mark; flags = nzcv r.state.flags }

abbrev pub a64_processor : List ℕ → ℕ → Processor (Run CpuState)
a64_processor code trash = record { target = Aarch64; machine = machine (effect code trash); seen = a64_seen; touches = touched_at code }

-- jumps and branches need not go on to the next instruction
abbrev pub is_straight : Instr → Bool
is_straight (Branch op words) = false
is_straight (BranchIf cond words) = false
is_straight (BranchReg op rn) = false
is_straight i = true

-- what an instruction does to a run that goes on
abbrev pub a64_does : Instr → Run CpuState → Run CpuState
a64_does i = stepped (act i)

-- an instruction touches nothing below the stack pointer and its zone
abbrev pub acts_above : Instr → CpuState → Type 0
acts_above i s = IsOff (is_below Aarch64 (s.registers 31)) (touched i s.registers)

abbrev pub a64_above : Instr → Run CpuState → Type 0
a64_above i r = acts_above i r.state

-- the offset of a spill slot from FP
abbrev pub slot_offset : ℕ → ℤ
slot_offset k = negsuc (95 + 8 * k)

-- every register but 31, which a store reads as 0, and FP
abbrev pub can_save : ℕ → Bool
can_save r = nat_lt r 31 && not (r == frame_pointer)

-- instructions of four bytes are at multiples of four
abbrev pub a64_rows : List ℕ → ℕ → Rows (Run CpuState) Instr
a64_rows code trash = record {
  processor = a64_processor code trash;
  code = code;
  is_place = λ pc. pc % 4 == 0;
  spelling = spelling;
  is_straight = is_straight;
  does = a64_does;
  touches = touched;
  can_save = can_save;
  save = λ r k. Unscaled Stur r frame_pointer (slot_offset k);
  restore = λ r k. Unscaled Ldur r frame_pointer (slot_offset k);
}

abbrev pub InstructionsAreRows : Type 0
InstructionsAreRows = (code : List ℕ) (trash : ℕ) → length code ≤ most_code → AreBytes code → trash < 2 ^ 64 → AreRows (a64_rows code trash) IsInstr

abbrev pub InstructionsAreSpills : Type 0
InstructionsAreSpills = (code : List ℕ) (trash : ℕ) → AreSpills (a64_rows code trash)
