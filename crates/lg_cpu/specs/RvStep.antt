-- The RV64IM processor: what a step of it does, whatever the bytes are (RISC-V unprivileged ISA). A fetch, a jump and an
-- access that are not at a multiple of their widths fault with Align, which counts before every other fault.
use Rattle.std.specs.Prelude.{ℕ, ◌-◌, ◌*◌, ◌/◌, ◌%◌, ◌==◌, Bool, true, false, nat_lt, List, drop, Option, Some, None, if◌then◌else◌}
use Rattle.lg_base.specs.Fields.{word_of}
use Rattle.lg_base.specs.Words.{add_words, sign_32}
use Rattle.lg_base.specs.Spaces.{mapped, loaded, stored}
use Rattle.lg_base.specs.Parts.{args_base}
use Rattle.lg_base.specs.Layout.{stop_address, code_base, stack_end}
use Rattle.lg_base.specs.HostNames.{host_by_address}
use Rattle.lg_base.specs.declared.target.Target.TheVariants as target
use Rattle.lg_base.specs.declared.fault.FaultKind.TheVariants.{Fetch, Decode, Memory, Align, Host}
use Rattle.lg_base.specs.declared.host_name.HostName.{HostName}
use Rattle.lg_host.specs.Host.{Host as Answer}
use Rattle.lg_rv.specs.declared.instruction.Instr.{Instr}
use Rattle.lg_rv.specs.declared.instruction.Instr.TheVariants.{Upper, Jal, Branch, Imm, Shift, Store, Reg}
use Rattle.lg_rv.specs.declared.instruction.UpperOp.TheVariants.{Lui, Auipc}
use Rattle.lg_rv.specs.declared.instruction.ImmOp.{ImmOp}
use Rattle.lg_rv.specs.declared.instruction.ImmOp.TheVariants.{Jalr, Lb, Lh, Lw, Ld, Lbu, Lhu, Lwu, Addi, Slti, Sltiu, Xori, Ori, Andi, Addiw}
use Rattle.lg_rv.specs.declared.instruction.StoreOp.{StoreOp}
use Rattle.lg_rv.specs.declared.instruction.StoreOp.TheVariants.{Sb, Sh, Sw, Sd}
use Rattle.lg_rv.specs.declared.instruction.RegOp.TheVariants.{Add, Slt, Sltu, Xor, Or, And, Addw}
use Rattle.lg_rv.specs.Reading.{front_of}
use Rattle.lg_base.specs.declared.flags.Flags.TheVariants.{NoFlags}
use Rattle.lg_cpu.specs.Fetches.{in_code}
use Rattle.lg_cpu.specs.Loads.{extended_by}
use Rattle.lg_cpu.specs.States.{CpuState, arrives}
use Rattle.lg_cpu.specs.Steps.{Effect, faults}
use Rattle.lg_cpu.specs.HostSteps.{put, after_call, answer_at, returned}
use Rattle.lg_cpu.specs.RvOperators.{reg_value, shift_value, is_taken}

-- register 0 reads as 0
abbrev pub read : (ℕ → ℕ) → ℕ → ℕ
read registers r = if r == 0 then 0 else registers r

-- ---- what the instructions do

-- the run goes on at an address, or has ended there
abbrev pub goes : ℕ → (ℕ → ℕ) → (ℕ → Option ℕ) → ℕ → Effect CpuState
goes pc registers bytes mark = arrives pc registers NoFlags bytes mark

-- a register gets a value, and the next instruction follows
abbrev pub sets : CpuState → ℕ → ℕ → Effect CpuState
sets q to value = goes (add_words q.pc 4) (put q.registers to value) q.bytes q.mark

abbrev pub loads : CpuState → ℕ → ℕ → Bool → Option ℕ → Effect CpuState
loads q to width signed None = faults q Memory
loads q to width signed (Some value) = sets q to (extended_by signed width value)

abbrev pub load_at : CpuState → ℕ → ℕ → ℕ → Bool → Effect CpuState
load_at q to address width signed = if address % width == 0 then loads q to width signed (loaded q.bytes address width) else faults q Align

abbrev pub store_at : CpuState → ℕ → ℕ → ℕ → Effect CpuState
store_at q address width value =
    if address % width == 0
    then (if mapped q.bytes address width then goes (add_words q.pc 4) q.registers (stored q.bytes address width value) q.mark else faults q Memory)
    else faults q Align

-- a jump; the link is the next instruction's address
abbrev pub jump_to : CpuState → ℕ → ℕ → Effect CpuState
jump_to q link target = if target % 4 == 0 then goes target (put q.registers link (add_words q.pc 4)) q.bytes q.mark else faults q Align

-- a branch, whose target counts only where it is taken
abbrev pub branch_to : CpuState → ℕ → Bool → Effect CpuState
branch_to q target true = if target % 4 == 0 then goes target q.registers q.bytes q.mark else faults q Align
branch_to q target false = goes (add_words q.pc 4) q.registers q.bytes q.mark

-- the rows with a number of 12 bits: a is the word in rs1, and n the number, extended by its sign
abbrev pub imm_effect : ImmOp → ℕ → ℕ → ℕ → CpuState → Effect CpuState
imm_effect Jalr rd a n q = jump_to q rd (add_words a n / 2 * 2)
imm_effect Lb rd a n q = load_at q rd (add_words a n) 1 true
imm_effect Lh rd a n q = load_at q rd (add_words a n) 2 true
imm_effect Lw rd a n q = load_at q rd (add_words a n) 4 true
imm_effect Ld rd a n q = load_at q rd (add_words a n) 8 false
imm_effect Lbu rd a n q = load_at q rd (add_words a n) 1 false
imm_effect Lhu rd a n q = load_at q rd (add_words a n) 2 false
imm_effect Lwu rd a n q = load_at q rd (add_words a n) 4 false
imm_effect Addi rd a n q = sets q rd (reg_value Add a n)
imm_effect Slti rd a n q = sets q rd (reg_value Slt a n)
imm_effect Sltiu rd a n q = sets q rd (reg_value Sltu a n)
imm_effect Xori rd a n q = sets q rd (reg_value Xor a n)
imm_effect Ori rd a n q = sets q rd (reg_value Or a n)
imm_effect Andi rd a n q = sets q rd (reg_value And a n)
imm_effect Addiw rd a n q = sets q rd (reg_value Addw a n)

-- how many bytes a store writes
abbrev pub store_width : StoreOp → ℕ
store_width Sb = 1
store_width Sh = 2
store_width Sw = 4
store_width Sd = 8

abbrev pub act : Instr → CpuState → Effect CpuState
act (Upper Lui rd imm) q = sets q rd (sign_32 (imm * 4096))
act (Upper Auipc rd imm) q = sets q rd (add_words q.pc (sign_32 (imm * 4096)))
act (Jal rd offset) q = jump_to q rd (add_words q.pc (word_of offset))
act (Branch op rs1 rs2 offset) q =
    branch_to q (add_words q.pc (word_of offset)) (is_taken op (read q.registers rs1) (read q.registers rs2))
act (Imm op rd rs1 imm) q = imm_effect op rd (read q.registers rs1) (word_of imm) q
act (Shift op rd rs1 amount) q = sets q rd (shift_value op (read q.registers rs1) amount)
act (Store op rs1 rs2 imm) q =
    store_at q (add_words (read q.registers rs1) (word_of imm)) (store_width op) (read q.registers rs2)
act (Reg op rd rs1 rs2) q = sets q rd (reg_value op (read q.registers rs1) (read q.registers rs2))

-- ---- fetching

abbrev pub decoded : Option (Instr × ℕ) → CpuState → Effect CpuState
decoded None q = faults q Decode
decoded (Some (i, len)) q = act i q

abbrev pub fetch : List ℕ → CpuState → Effect CpuState
fetch code q =
    if q.pc % 4 == 0
    then (if in_code code q.pc then decoded (front_of (drop (q.pc - code_base) code)) q else faults q Fetch)
    else faults q Align

-- ---- host functions

-- the outcome of a host function; control returns to the link, register 1
abbrev pub host_effect : Answer → ℕ → CpuState → Effect CpuState
host_effect answer trash q = returned answer (q.registers 1) (after_call target.Riscv64 32 q.registers trash) NoFlags q

-- at a host entry the stack pointer, register 2, is a multiple of 16
abbrev pub enter_host : HostName → ℕ → CpuState → Effect CpuState
enter_host name trash q =
    if q.registers 2 % 16 == 0
    then host_effect (answer_at target.Riscv64 name (q.registers 2) q) trash q
    else faults q Host

-- ---- the step

abbrev pub effect_at : Option HostName → List ℕ → ℕ → CpuState → Effect CpuState
effect_at None code trash q = fetch code q
effect_at (Some name) code trash q = enter_host name trash q

-- what a step does with this code and trash word
abbrev pub effect : List ℕ → ℕ → CpuState → Effect CpuState
effect code trash q = effect_at (host_by_address q.pc) code trash q

-- ---- the start

-- the link, the stack pointer and the two arguments; every other of the 32 registers holds the trash word
abbrev pub start_registers : ℕ → ℕ → ℕ → ℕ
start_registers count trash r =
    if r == 1 then stop_address
    else if r == 2 then stack_end
    else if r == 10 then count
    else if r == 11 then args_base
    else if nat_lt r 32 then trash
    else 0

-- over the bytes of a memory and a heap mark
abbrev pub begins : (count trash : ℕ) → (ℕ → Option ℕ) → ℕ → CpuState
begins count trash bytes mark = record { pc = code_base; registers = start_registers count trash; flags = NoFlags; bytes = bytes; mark = mark }
