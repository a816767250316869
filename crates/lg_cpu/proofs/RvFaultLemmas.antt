-- A step of RV64IM that faults leaves everything as it was.
use Rattle.std.proofs.Common.{ℕ, ◌-◌, ◌/◌, ◌*◌, ◌%◌, Bool, true, false, List, drop, Option, Some, None, refl}
use Rattle.std.specs.Prelude.{◌==◌}
use Rattle.lg_base.specs.Fields.{word_of}
use Rattle.lg_base.specs.Layout.{code_base}
use Rattle.lg_base.specs.Spaces.{mapped, loaded}
use Rattle.lg_base.specs.Words.{add_words}
use Rattle.lg_base.specs.HostNames.{host_by_address}
use Rattle.lg_base.specs.declared.host_name.HostName.{HostName}
use Rattle.lg_base.specs.declared.target.Target.TheVariants as target
use Rattle.lg_base.specs.declared.fault.FaultKind.TheVariants.{Align, Memory, Fetch, Host}
use Rattle.lg_rv.specs.Reading.{front_of}
use Rattle.lg_rv.specs.declared.instruction.Instr.{Instr}
use Rattle.lg_rv.specs.declared.instruction.Instr.TheVariants.{Upper, Jal, Branch, Imm, Shift, Store, Reg}
use Rattle.lg_rv.specs.declared.instruction.UpperOp.TheVariants.{Lui, Auipc}
use Rattle.lg_rv.specs.declared.instruction.ImmOp.{ImmOp}
use Rattle.lg_rv.specs.declared.instruction.ImmOp.TheVariants.{Jalr, Lb, Lh, Lw, Ld, Lbu, Lhu, Lwu, Addi, Slti, Sltiu, Xori, Ori, Andi, Addiw}
use Rattle.lg_cpu.specs.HostSteps.{answer_at}
use Rattle.lg_cpu.specs.RvOperators.{is_taken}
use Rattle.lg_cpu.specs.States.{CpuState}
use Rattle.lg_cpu.specs.RvStep.{read, sets, loads, load_at, store_at, store_width, jump_to, branch_to, imm_effect, act, decoded, fetch, enter_host, effect_at, effect}
use Rattle.lg_cpu.specs.Fetches.{in_code}
use Rattle.lg_cpu.proofs.FaultLemmas.{Quiet, quiet_arrived, quiet_faults, quiet_choice, quiet_returned}

quiet_sets : (q : CpuState) (to value : ℕ) → Quiet q (sets q to value)
quiet_sets q to value = quiet_arrived (add_words q.pc 4) _

quiet_loads : (q : CpuState) (to width : ℕ) (signed : Bool) (o : Option ℕ) → Quiet q (loads q to width signed o)
quiet_loads q to width signed None = quiet_faults q Memory
quiet_loads q to width signed (Some value) = quiet_sets q to _

quiet_load : (q : CpuState) (to address width : ℕ) (signed : Bool) → Quiet q (load_at q to address width signed)
quiet_load q to address width signed = quiet_choice q (address % width == 0) _ _ (quiet_loads q to width signed (loaded q.bytes address width)) (quiet_faults q Align)

quiet_store : (q : CpuState) (address width value : ℕ) → Quiet q (store_at q address width value)
quiet_store q address width value =
    quiet_choice q (address % width == 0) _ _ (quiet_choice q (mapped q.bytes address width) _ _ (quiet_arrived (add_words q.pc 4) _) (quiet_faults q Memory)) (quiet_faults q Align)

quiet_jump : (q : CpuState) (link target : ℕ) → Quiet q (jump_to q link target)
quiet_jump q link target = quiet_choice q (target % 4 == 0) _ _ (quiet_arrived target _) (quiet_faults q Align)

quiet_branch : (q : CpuState) (target : ℕ) (taken : Bool) → Quiet q (branch_to q target taken)
quiet_branch q target true = quiet_choice q (target % 4 == 0) _ _ (quiet_arrived target _) (quiet_faults q Align)
quiet_branch q target false = quiet_arrived (add_words q.pc 4) _

quiet_imm : (op : ImmOp) (rd a n : ℕ) (q : CpuState) → Quiet q (imm_effect op rd a n q)
quiet_imm Jalr rd a n q = quiet_jump q rd (add_words a n / 2 * 2)
quiet_imm Lb rd a n q = quiet_load q rd (add_words a n) 1 true
quiet_imm Lh rd a n q = quiet_load q rd (add_words a n) 2 true
quiet_imm Lw rd a n q = quiet_load q rd (add_words a n) 4 true
quiet_imm Ld rd a n q = quiet_load q rd (add_words a n) 8 false
quiet_imm Lbu rd a n q = quiet_load q rd (add_words a n) 1 false
quiet_imm Lhu rd a n q = quiet_load q rd (add_words a n) 2 false
quiet_imm Lwu rd a n q = quiet_load q rd (add_words a n) 4 false
quiet_imm Addi rd a n q = quiet_sets q rd _
quiet_imm Slti rd a n q = quiet_sets q rd _
quiet_imm Sltiu rd a n q = quiet_sets q rd _
quiet_imm Xori rd a n q = quiet_sets q rd _
quiet_imm Ori rd a n q = quiet_sets q rd _
quiet_imm Andi rd a n q = quiet_sets q rd _
quiet_imm Addiw rd a n q = quiet_sets q rd _

quiet_act : (i : Instr) (q : CpuState) → Quiet q (act i q)
quiet_act (Upper Lui rd imm) q = quiet_sets q rd _
quiet_act (Upper Auipc rd imm) q = quiet_sets q rd _
quiet_act (Jal rd offset) q = quiet_jump q rd (add_words q.pc (word_of offset))
quiet_act (Branch op rs1 rs2 offset) q = quiet_branch q (add_words q.pc (word_of offset)) (is_taken op (read q.registers rs1) (read q.registers rs2))
quiet_act (Imm op rd rs1 imm) q = quiet_imm op rd (read q.registers rs1) (word_of imm) q
quiet_act (Shift op rd rs1 amount) q = quiet_sets q rd _
quiet_act (Store op rs1 rs2 imm) q = quiet_store q (add_words (read q.registers rs1) (word_of imm)) (store_width op) (read q.registers rs2)
quiet_act (Reg op rd rs1 rs2) q = quiet_sets q rd _

quiet_decoded : (o : Option (Instr × ℕ)) (q : CpuState) → Quiet q (decoded o q)
quiet_decoded None q = (refl, refl)
quiet_decoded (Some (i, len)) q = quiet_act i q

quiet_fetch : (code : List ℕ) (q : CpuState) → Quiet q (fetch code q)
quiet_fetch code q = quiet_choice q (q.pc % 4 == 0) _ _ (quiet_choice q (in_code code q.pc) _ _ (quiet_decoded (front_of (drop (q.pc - code_base) code)) q) (quiet_faults q Fetch)) (quiet_faults q Align)

quiet_host : (name : HostName) (trash : ℕ) (q : CpuState) → Quiet q (enter_host name trash q)
quiet_host name trash q =
    quiet_choice q (q.registers 2 % 16 == 0) _ _ (quiet_returned (answer_at target.Riscv64 name (q.registers 2) q) (q.registers 1) _ _ q) (quiet_faults q Host)

quiet_at : (o : Option HostName) (code : List ℕ) (trash : ℕ) (q : CpuState) → Quiet q (effect_at o code trash q)
quiet_at None code trash q = quiet_fetch code q
quiet_at (Some name) code trash q = quiet_host name trash q

pub rv-faults-unchanged : (code : List ℕ) (trash : ℕ) (q : CpuState) → Quiet q (effect code trash q)
rv-faults-unchanged code trash q = quiet_at (host_by_address q.pc) code trash q
