-- A step of AArch64 that faults leaves everything as it was.
use Rattle.std.proofs.Common.{ℕ, ◌-◌, ◌*◌, ◌%◌, Bool, true, false, List, drop, Option, Some, None, refl}
use Rattle.std.specs.Prelude.{◌==◌}
use Rattle.lg_base.specs.Fields.{word_of}
use Rattle.lg_base.specs.Layout.{code_base}
use Rattle.lg_base.specs.Spaces.{mapped, loaded}
use Rattle.lg_base.specs.Words.{add_words}
use Rattle.lg_base.specs.HostNames.{host_by_address}
use Rattle.lg_base.specs.declared.host_name.HostName.{HostName}
use Rattle.lg_base.specs.declared.target.Target.TheVariants as target
use Rattle.lg_base.specs.declared.fault.FaultKind.TheVariants.{Align, Memory, Fetch, Host}
use Rattle.lg_a64.specs.Reading.{front_of}
use Rattle.lg_a64.specs.declared.instruction.Instr.{Instr}
use Rattle.lg_a64.specs.declared.instruction.Instr.TheVariants.{Reg, Imm, Wide, MulAdd, Bitfield, Csinc, Reverse, Scaled, Ldrx, Unscaled, Branch, BranchIf, BranchReg, Nop}
use Rattle.lg_a64.specs.declared.instruction.ScaledOp.{ScaledOp}
use Rattle.lg_a64.specs.declared.instruction.ScaledOp.TheVariants.{Ldr64, Str64, Ldr32, Ldrs32, Str32, Ldr16, Ldrs16, Str16, Ldr8, Ldrs8, Str8}
use Rattle.lg_a64.specs.declared.instruction.UnscaledOp.{UnscaledOp}
use Rattle.lg_a64.specs.declared.instruction.UnscaledOp.TheVariants.{Ldur, Stur}
use Rattle.lg_a64.specs.declared.instruction.BranchOp.{BranchOp}
use Rattle.lg_a64.specs.declared.instruction.BranchOp.TheVariants.{B, Bl}
use Rattle.lg_a64.specs.declared.instruction.BranchRegOp.{BranchRegOp}
use Rattle.lg_a64.specs.declared.instruction.BranchRegOp.TheVariants.{Br, Blr, Ret}
use Rattle.lg_cpu.specs.HostSteps.{answer_at}
use Rattle.lg_cpu.specs.States.{CpuState}
use Rattle.lg_cpu.specs.A64Step.{read, loads, load_at, store_at, scaled_width, scaled_effect, unscaled_effect, branch_effect, branch_reg_effect, away, act, decoded, fetch, enter_host, effect_at, effect}
use Rattle.lg_cpu.specs.Fetches.{in_code}
use Rattle.lg_cpu.proofs.FaultLemmas.{Quiet, quiet_arrived, quiet_faults, quiet_choice, quiet_returned}

quiet_loads : (q : CpuState) (to width : ℕ) (signed : Bool) (o : Option ℕ) → Quiet q (loads q to width signed o)
quiet_loads q to width signed None = quiet_faults q Memory
quiet_loads q to width signed (Some value) = quiet_arrived (add_words q.pc 4) _

quiet_load : (q : CpuState) (to address width : ℕ) (signed : Bool) → Quiet q (load_at q to address width signed)
quiet_load q to address width signed = quiet_loads q to width signed (loaded q.bytes address width)

quiet_store : (q : CpuState) (address width value : ℕ) → Quiet q (store_at q address width value)
quiet_store q address width value = quiet_choice q (mapped q.bytes address width) _ _ (quiet_arrived (add_words q.pc 4) _) (quiet_faults q Memory)

quiet_scaled : (op : ScaledOp) (rt a : ℕ) (q : CpuState) → Quiet q (scaled_effect op rt a q)
quiet_scaled Ldr64 rt a q = quiet_load q rt a 8 false
quiet_scaled Str64 rt a q = quiet_store q a 8 (read q.registers rt)
quiet_scaled Ldr32 rt a q = quiet_load q rt a 4 false
quiet_scaled Ldrs32 rt a q = quiet_load q rt a 4 true
quiet_scaled Str32 rt a q = quiet_store q a 4 (read q.registers rt)
quiet_scaled Ldr16 rt a q = quiet_load q rt a 2 false
quiet_scaled Ldrs16 rt a q = quiet_load q rt a 2 true
quiet_scaled Str16 rt a q = quiet_store q a 2 (read q.registers rt)
quiet_scaled Ldr8 rt a q = quiet_load q rt a 1 false
quiet_scaled Ldrs8 rt a q = quiet_load q rt a 1 true
quiet_scaled Str8 rt a q = quiet_store q a 1 (read q.registers rt)

quiet_unscaled : (op : UnscaledOp) (rt a : ℕ) (q : CpuState) → Quiet q (unscaled_effect op rt a q)
quiet_unscaled Ldur rt a q = quiet_load q rt a 8 false
quiet_unscaled Stur rt a q = quiet_store q a 8 (read q.registers rt)

quiet_branch : (op : BranchOp) (target : ℕ) (q : CpuState) → Quiet q (branch_effect op target q)
quiet_branch B target q = quiet_arrived target _
quiet_branch Bl target q = quiet_arrived target _

quiet_branch_reg : (op : BranchRegOp) (target : ℕ) (q : CpuState) → Quiet q (branch_reg_effect op target q)
quiet_branch_reg Br target q = quiet_arrived target _
quiet_branch_reg Blr target q = quiet_arrived target _
quiet_branch_reg Ret target q = quiet_arrived target _

quiet_act : (i : Instr) (q : CpuState) → Quiet q (act i q)
quiet_act (Reg op rd rn rm) q = quiet_arrived (add_words q.pc 4) _
quiet_act (Imm op rd rn imm shifted) q = quiet_arrived (add_words q.pc 4) _
quiet_act (Wide op rd imm hw) q = quiet_arrived (add_words q.pc 4) _
quiet_act (MulAdd op rd rn rm ra) q = quiet_arrived (add_words q.pc 4) _
quiet_act (Bitfield op rd rn immr imms) q = quiet_arrived (add_words q.pc 4) _
quiet_act (Csinc rd rn rm cond) q = quiet_arrived (add_words q.pc 4) _
quiet_act (Reverse op rd rn) q = quiet_arrived (add_words q.pc 4) _
quiet_act (Scaled op rt rn imm) q = quiet_scaled op rt (add_words (q.registers rn) (imm * scaled_width op)) q
quiet_act (Ldrx rt rn rm) q = quiet_load q rt (add_words (q.registers rn) (read q.registers rm)) 8 false
quiet_act (Unscaled op rt rn imm) q = quiet_unscaled op rt (add_words (q.registers rn) (word_of imm)) q
quiet_act (Branch op words) q = quiet_branch op (away q.pc (word_of words)) q
quiet_act (BranchIf cond words) q = quiet_arrived _ _
quiet_act (BranchReg op rn) q = quiet_branch_reg op (read q.registers rn) q
quiet_act Nop q = quiet_arrived (add_words q.pc 4) _

quiet_decoded : (o : Option (Instr × ℕ)) (q : CpuState) → Quiet q (decoded o q)
quiet_decoded None q = (refl, refl)
quiet_decoded (Some (i, len)) q = quiet_act i q

quiet_fetch : (code : List ℕ) (q : CpuState) → Quiet q (fetch code q)
quiet_fetch code q = quiet_choice q (q.pc % 4 == 0) _ _ (quiet_choice q (in_code code q.pc) _ _ (quiet_decoded (front_of (drop (q.pc - code_base) code)) q) (quiet_faults q Fetch)) (quiet_faults q Align)

quiet_host : (name : HostName) (trash : ℕ) (q : CpuState) → Quiet q (enter_host name trash q)
quiet_host name trash q =
    quiet_choice q (q.registers 31 % 16 == 0) _ _ (quiet_returned (answer_at target.Aarch64 name (q.registers 31) q) (q.registers 30) _ _ q) (quiet_faults q Host)

quiet_at : (o : Option HostName) (code : List ℕ) (trash : ℕ) (q : CpuState) → Quiet q (effect_at o code trash q)
quiet_at None code trash q = quiet_fetch code q
quiet_at (Some name) code trash q = quiet_host name trash q

pub a64-faults-unchanged : (code : List ℕ) (trash : ℕ) (q : CpuState) → Quiet q (effect code trash q)
a64-faults-unchanged code trash q = quiet_at (host_by_address q.pc) code trash q
