-- The AArch64 processor: what a step of it does, whatever the bytes are (Arm Architecture Reference Manual, "A64 Base Instruction Descriptions"). A fetch
-- that is not at a multiple of 4 faults with Align; accesses may be anywhere.
use Rattle.std.specs.Prelude.{ℕ, ◌-◌, ◌*◌, ◌/◌, ◌%◌, ◌==◌, Bool, true, false, nat_lt, List, drop, Option, Some, None, if◌then◌else◌}
use Rattle.lg_base.specs.Fields.{word_of}
use Rattle.lg_base.specs.Words.{add_words, mul_words}
use Rattle.lg_base.specs.Spaces.{mapped, loaded, stored}
use Rattle.lg_base.specs.Parts.{args_base}
use Rattle.lg_base.specs.Layout.{stop_address, code_base, stack_end}
use Rattle.lg_base.specs.HostNames.{host_by_address}
use Rattle.lg_base.specs.declared.flags.Flags.{Flags}
use Rattle.lg_base.specs.declared.flags.Flags.TheVariants.{Nzcv}
use Rattle.lg_base.specs.declared.target.Target.TheVariants as target
use Rattle.lg_base.specs.declared.fault.FaultKind.TheVariants.{Fetch, Decode, Memory, Align, Host}
use Rattle.lg_base.specs.declared.host_name.HostName.{HostName}
use Rattle.lg_host.specs.Host.{Host as Answer}
use Rattle.lg_a64.specs.declared.instruction.Instr.{Instr}
use Rattle.lg_a64.specs.declared.instruction.Instr.TheVariants.{Reg, Imm, Wide, MulAdd, Bitfield, Csinc, Reverse, Scaled, Ldrx, Unscaled, Branch, BranchIf, BranchReg, Nop}
use Rattle.lg_a64.specs.declared.instruction.RegOp.{RegOp}
use Rattle.lg_a64.specs.declared.instruction.ImmOp.{ImmOp}
use Rattle.lg_a64.specs.declared.instruction.ImmOp.TheVariants.{Addi, Addsi, Subi, Subsi}
use Rattle.lg_a64.specs.declared.instruction.ScaledOp.{ScaledOp}
use Rattle.lg_a64.specs.declared.instruction.ScaledOp.TheVariants.{Ldr64, Str64, Ldr32, Ldrs32, Str32, Ldr16, Ldrs16, Str16, Ldr8, Ldrs8, Str8}
use Rattle.lg_a64.specs.declared.instruction.UnscaledOp.{UnscaledOp}
use Rattle.lg_a64.specs.declared.instruction.UnscaledOp.TheVariants.{Ldur, Stur}
use Rattle.lg_a64.specs.declared.instruction.BranchOp.{BranchOp}
use Rattle.lg_a64.specs.declared.instruction.BranchOp.TheVariants.{B, Bl}
use Rattle.lg_a64.specs.declared.instruction.BranchRegOp.{BranchRegOp}
use Rattle.lg_a64.specs.declared.instruction.BranchRegOp.TheVariants.{Br, Blr, Ret}
use Rattle.lg_a64.specs.Reading.{front_of}
use Rattle.lg_cpu.specs.Steps.{Effect, faults}
use Rattle.lg_cpu.specs.Loads.{extended_by}
use Rattle.lg_cpu.specs.States.{CpuState, arrives, goes_on}
use Rattle.lg_cpu.specs.HostSteps.{put, after_call, answer_at, returned}
use Rattle.lg_cpu.specs.Fetches.{in_code}
use Rattle.lg_cpu.specs.A64Operators.{reg_value, reg_flags, imm_number, imm_value, imm_flags, wide_value, mul_add_value, bitfield_value, csinc_value, reverse_value, condition_holds}

-- where 31 is no stack pointer it reads as 0, and is not written
abbrev pub read : (ℕ → ℕ) → ℕ → ℕ
read registers r = if r == 31 then 0 else registers r

abbrev pub write : (ℕ → ℕ) → ℕ → ℕ → ℕ → ℕ
write registers to value r = if to == 31 then registers r else put registers to value r

-- ---- what the instructions do

-- registers and flags are these, and the next instruction follows
abbrev pub computes : CpuState → (ℕ → ℕ) → Flags → Effect CpuState
computes q registers flags = arrives (add_words q.pc 4) registers flags q.bytes q.mark

-- a register gets a value, and the flags are these
abbrev pub sets_both : CpuState → ℕ → ℕ → Flags → Effect CpuState
sets_both q to value flags = computes q (write q.registers to value) flags

-- a register gets a value
abbrev pub sets : CpuState → ℕ → ℕ → Effect CpuState
sets q to value = sets_both q to value q.flags

abbrev pub loads : CpuState → ℕ → ℕ → Bool → Option ℕ → Effect CpuState
loads q to width signed None = faults q Memory
loads q to width signed (Some value) = sets q to (extended_by signed width value)

abbrev pub load_at : CpuState → ℕ → ℕ → ℕ → Bool → Effect CpuState
load_at q to address width signed = loads q to width signed (loaded q.bytes address width)

abbrev pub store_at : CpuState → ℕ → ℕ → ℕ → Effect CpuState
store_at q address width value =
    if mapped q.bytes address width then arrives (add_words q.pc 4) q.registers q.flags (stored q.bytes address width value) q.mark else faults q Memory

-- a jump that links; where a jump goes counts only in the next step
abbrev pub link_to : CpuState → ℕ → Effect CpuState
link_to q target = arrives target (put q.registers 30 (add_words q.pc 4)) q.flags q.bytes q.mark

-- a branch
abbrev pub branch_to : CpuState → Bool → ℕ → Effect CpuState
branch_to q holds target = goes_on q (if holds then target else add_words q.pc 4)

-- the rows with three registers
abbrev pub reg_effect : RegOp → ℕ → ℕ → ℕ → CpuState → Effect CpuState
reg_effect op rd a b q = sets_both q rd (reg_value op q.flags a b) (reg_flags op q.flags a b)

-- the rows that add and subtract a number: 31 is the stack pointer as rn, and as rd where no flags are set
abbrev pub imm_registers : ImmOp → (ℕ → ℕ) → ℕ → ℕ → ℕ → ℕ
imm_registers Addi registers rd value = put registers rd value
imm_registers Subi registers rd value = put registers rd value
imm_registers Addsi registers rd value = write registers rd value
imm_registers Subsi registers rd value = write registers rd value

abbrev pub imm_effect : ImmOp → ℕ → ℕ → ℕ → CpuState → Effect CpuState
imm_effect op rd a n q = computes q (imm_registers op q.registers rd (imm_value op a n)) (imm_flags op q.flags a n)

-- loads and stores at an offset from a register, counted in accesses; a is the address
abbrev pub scaled_width : ScaledOp → ℕ
scaled_width Ldr64 = 8
scaled_width Str64 = 8
scaled_width Ldr32 = 4
scaled_width Ldrs32 = 4
scaled_width Str32 = 4
scaled_width Ldr16 = 2
scaled_width Ldrs16 = 2
scaled_width Str16 = 2
scaled_width Ldr8 = 1
scaled_width Ldrs8 = 1
scaled_width Str8 = 1

abbrev pub scaled_effect : ScaledOp → ℕ → ℕ → CpuState → Effect CpuState
scaled_effect Ldr64 rt a q = load_at q rt a 8 false
scaled_effect Str64 rt a q = store_at q a 8 (read q.registers rt)
scaled_effect Ldr32 rt a q = load_at q rt a 4 false
scaled_effect Ldrs32 rt a q = load_at q rt a 4 true
scaled_effect Str32 rt a q = store_at q a 4 (read q.registers rt)
scaled_effect Ldr16 rt a q = load_at q rt a 2 false
scaled_effect Ldrs16 rt a q = load_at q rt a 2 true
scaled_effect Str16 rt a q = store_at q a 2 (read q.registers rt)
scaled_effect Ldr8 rt a q = load_at q rt a 1 false
scaled_effect Ldrs8 rt a q = load_at q rt a 1 true
scaled_effect Str8 rt a q = store_at q a 1 (read q.registers rt)

abbrev pub unscaled_effect : UnscaledOp → ℕ → ℕ → CpuState → Effect CpuState
unscaled_effect Ldur rt a q = load_at q rt a 8 false
unscaled_effect Stur rt a q = store_at q a 8 (read q.registers rt)

-- the address this many words away
abbrev pub away : ℕ → ℕ → ℕ
away pc words = add_words pc (mul_words words 4)

abbrev pub branch_effect : BranchOp → ℕ → CpuState → Effect CpuState
branch_effect B target q = goes_on q target
branch_effect Bl target q = link_to q target

abbrev pub branch_reg_effect : BranchRegOp → ℕ → CpuState → Effect CpuState
branch_reg_effect Br target q = goes_on q target
branch_reg_effect Blr target q = link_to q target
branch_reg_effect Ret target q = goes_on q target

abbrev pub act : Instr → CpuState → Effect CpuState
act (Reg op rd rn rm) q = reg_effect op rd (read q.registers rn) (read q.registers rm) q
act (Imm op rd rn imm shifted) q = imm_effect op rd (q.registers rn) (imm_number imm shifted) q
act (Wide op rd imm hw) q = sets q rd (wide_value op (read q.registers rd) imm hw)
act (MulAdd op rd rn rm ra) q = sets q rd (mul_add_value op (read q.registers rn) (read q.registers rm) (read q.registers ra))
act (Bitfield op rd rn immr imms) q = sets q rd (bitfield_value op (read q.registers rn) immr imms)
act (Csinc rd rn rm cond) q = sets q rd (csinc_value (condition_holds cond q.flags) (read q.registers rn) (read q.registers rm))
act (Reverse op rd rn) q = sets q rd (reverse_value op (read q.registers rn))
act (Scaled op rt rn imm) q = scaled_effect op rt (add_words (q.registers rn) (imm * scaled_width op)) q
act (Ldrx rt rn rm) q = load_at q rt (add_words (q.registers rn) (read q.registers rm)) 8 false
act (Unscaled op rt rn imm) q = unscaled_effect op rt (add_words (q.registers rn) (word_of imm)) q
act (Branch op words) q = branch_effect op (away q.pc (word_of words)) q
act (BranchIf cond words) q = branch_to q (condition_holds cond q.flags) (away q.pc (word_of words))
act (BranchReg op rn) q = branch_reg_effect op (read q.registers rn) q
act Nop q = computes q q.registers q.flags

-- ---- fetching

abbrev pub decoded : Option (Instr × ℕ) → CpuState → Effect CpuState
decoded None q = faults q Decode
decoded (Some (i, len)) q = act i q

abbrev pub fetch : List ℕ → CpuState → Effect CpuState
fetch code q =
    if q.pc % 4 == 0
    then (if in_code code q.pc then decoded (front_of (drop (q.pc - code_base) code)) q else faults q Fetch)
    else faults q Align

-- ---- host functions

-- the flags at the start, and after a host function: the low four bits of the trash word, N, Z, C and V from high to low
abbrev pub trash_flags : ℕ → Flags
trash_flags trash = Nzcv (trash / 8 % 2 == 1) (trash / 4 % 2 == 1) (trash / 2 % 2 == 1) (trash % 2 == 1)

-- the outcome of a host function; control returns to the link, register 30
abbrev pub host_effect : Answer → ℕ → CpuState → Effect CpuState
host_effect answer trash q = returned answer (q.registers 30) (after_call target.Aarch64 32 q.registers trash) (trash_flags trash) q

-- at a host entry the stack pointer, register 31, is a multiple of 16
abbrev pub enter_host : HostName → ℕ → CpuState → Effect CpuState
enter_host name trash q =
    if q.registers 31 % 16 == 0
    then host_effect (answer_at target.Aarch64 name (q.registers 31) q) trash q
    else faults q Host

-- ---- the step

abbrev pub effect_at : Option HostName → List ℕ → ℕ → CpuState → Effect CpuState
effect_at None code trash q = fetch code q
effect_at (Some name) code trash q = enter_host name trash q

-- what a step does with this code and trash word
abbrev pub effect : List ℕ → ℕ → CpuState → Effect CpuState
effect code trash q = effect_at (host_by_address q.pc) code trash q

-- ---- the start

-- the link, the stack pointer and the two arguments; every other of the registers holds the trash word
abbrev pub start_registers : ℕ → ℕ → ℕ → ℕ
start_registers count trash r =
    if r == 30 then stop_address
    else if r == 31 then stack_end
    else if r == 0 then count
    else if r == 1 then args_base
    else if nat_lt r 32 then trash
    else 0

-- over the bytes of a memory and a heap mark
abbrev pub begins : (count trash : ℕ) → (ℕ → Option ℕ) → ℕ → CpuState
begins count trash bytes mark = record { pc = code_base; registers = start_registers count trash; flags = trash_flags trash; bytes = bytes; mark = mark }
