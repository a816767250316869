-- The RV64IM processor by its instructions.
use Rattle.std.specs.Prelude.{ℕ, ◌+◌, ◌*◌, ◌%◌, ◌==◌, ◌≤◌, ◌&&◌, not, nat_lt, Bool, true, false, ℤ, negsuc, List, length, ◌<◌, ◌^◌}
use Rattle.lg_base.specs.Layout.{most_code}
use Rattle.lg_base.specs.declared.target.Target.TheVariants.{Riscv64}
use Rattle.lg_rv.specs.Spelling.{spelling, IsInstr}
use Rattle.lg_rv.specs.declared.instruction.Instr.{Instr}
use Rattle.lg_rv.specs.declared.instruction.Instr.TheVariants.{Jal, Branch, Imm, Store}
use Rattle.lg_rv.specs.declared.instruction.ImmOp.TheVariants.{Jalr, Ld}
use Rattle.lg_rv.specs.declared.instruction.StoreOp.TheVariants.{Sd}
use Rattle.lg_cpu.specs.Steps.{Run, stepped, machine}
use Rattle.lg_cpu.specs.States.{CpuState}
use Rattle.lg_cpu.specs.RvStep.{act, effect}
use Rattle.lg_base.specs.declared.flags.Flags.TheVariants.{NoFlags}
use Rattle.lg_carry.specs.Processors.{Seen, Processor, IsOff, is_below}
use Rattle.lg_carry.specs.Rows.{Rows, AreRows}
use Rattle.lg_carry.specs.Spills.{AreSpills}
use Rattle.lg_selr_values.specs.Processor.RvTouched.{touched, touched_at}
use Rattle.lg_cpu.specs.Laws.{AreBytes}

-- the carry is in a register, so there is no flag
abbrev pub rv_seen : Run CpuState → Seen
rv_seen r = record { pc = r.state.pc; registers = r.state.registers; bytes = r.state.bytes; mark = r.state.mark; flags = NoFlags }

abbrev pub rv_processor : List ℕ → ℕ → Processor (Run CpuState)
rv_processor code trash = record { target = Riscv64; machine = machine (effect code trash); seen = rv_seen; touches = touched_at code }

-- jumps and branches need not go on to the next instruction
abbrev pub is_straight : Instr → Bool
is_straight (Jal rd offset) = false
is_straight (Branch op rs1 rs2 offset) = false
is_straight (Imm Jalr rd rs1 imm) = false
is_straight i = true

-- what an instruction does to a run that goes on
abbrev pub rv_does : Instr → Run CpuState → Run CpuState
rv_does i = stepped (act i)

-- an instruction touches nothing below the stack pointer and its zone
abbrev pub acts_above : Instr → CpuState → Type 0
acts_above i s = IsOff (is_below Riscv64 (s.registers 2)) (touched i s.registers)

abbrev pub rv_above : Instr → Run CpuState → Type 0
rv_above i r = acts_above i r.state

-- the offset of a spill slot from FP
abbrev pub slot_offset : ℕ → ℤ
slot_offset k = negsuc (95 + 8 * k)

-- every register but x0, whose words are lost, and FP, x8
abbrev pub can_save : ℕ → Bool
can_save r = nat_lt r 32 && (not (r == 0) && not (r == 8))

-- instructions of four bytes are at multiples of four
abbrev pub rv_rows : List ℕ → ℕ → Rows (Run CpuState) Instr
rv_rows code trash = record {
  processor = rv_processor code trash;
  code = code;
  is_place = λ pc. pc % 4 == 0;
  spelling = spelling;
  is_straight = is_straight;
  does = rv_does;
  touches = touched;
  can_save = can_save;
  save = λ r k. Store Sd 8 r (slot_offset k);
  restore = λ r k. Imm Ld r 8 (slot_offset k);
}

abbrev pub InstructionsAreRows : Type 0
InstructionsAreRows = (code : List ℕ) (trash : ℕ) → length code ≤ most_code → AreBytes code → trash < 2 ^ 64 → AreRows (rv_rows code trash) IsInstr

abbrev pub InstructionsAreSpills : Type 0
InstructionsAreSpills = (code : List ℕ) (trash : ℕ) → AreSpills (rv_rows code trash)
