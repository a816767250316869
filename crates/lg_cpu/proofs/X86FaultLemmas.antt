-- A step of x86-64 that faults leaves everything as it was.
use Rattle.std.proofs.Common.{ℕ, ◌-◌, ◌%◌, Bool, List, drop, Option, Some, None, refl}
use Rattle.std.specs.Prelude.{◌==◌}
use Rattle.lg_base.specs.Fields.{word_of}
use Rattle.lg_base.specs.Layout.{code_base}
use Rattle.lg_base.specs.Spaces.{loaded}
use Rattle.lg_base.specs.Words.{add_words}
use Rattle.lg_base.specs.HostNames.{host_by_address}
use Rattle.lg_base.specs.declared.host_name.HostName.{HostName}
use Rattle.lg_base.specs.declared.target.Target.TheVariants as target
use Rattle.lg_base.specs.declared.fault.FaultKind.{FaultKind}
use Rattle.lg_base.specs.declared.fault.FaultKind.TheVariants.{Memory, Fetch, Host}
use Rattle.lg_x86.specs.Reading.{front_of}
use Rattle.lg_x86.specs.declared.instruction.Instr.{Instr}
use Rattle.lg_x86.specs.declared.instruction.Instr.TheVariants.{RmReg, Imm, RegRm, Load, Store, Lea2, Movi32, Movs32, Movi64, Unary, Shift, Bswap, Stack, JumpIfShort, JumpIfNear, Set, JumpShort, JumpNear, JumpReg, Bare}
use Rattle.lg_x86.specs.declared.instruction.JumpNearOp.TheVariants.{Jmp32, Call32}
use Rattle.lg_x86.specs.declared.instruction.JumpRegOp.TheVariants.{Jmpr, Callr}
use Rattle.lg_x86.specs.declared.instruction.BareOp.TheVariants.{Cqo, Ret, Nop}
use Rattle.lg_cpu.specs.HostSteps.{answer_at}
use Rattle.lg_cpu.specs.States.{CpuState}
use Rattle.lg_cpu.specs.Fetches.{in_code}
use Rattle.lg_cpu.specs.X86Operators.{condition_holds}
use Rattle.lg_cpu.specs.X86Step.{Scene, scene_of, pushes, made, fault_of, goes_with, goes_where, returns, does, decoded, fetch, takes_al, enter_with, enter_host, effect_at, effect}
use Rattle.lg_cpu.proofs.FaultLemmas.{Quiet, quiet_arrived, quiet_faults, quiet_choice, quiet_returned}

quiet_with : (q : CpuState) (pc : ℕ) (kind : FaultKind) (o : Option Scene) → Quiet q (goes_with q pc kind o)
quiet_with q pc kind None = quiet_faults q kind
quiet_with q pc kind (Some s) = quiet_arrived pc _

quiet_where : (q : CpuState) (next target : ℕ) (o : Option Bool) → Quiet q (goes_where q next target o)
quiet_where q next target None = (refl, refl)
quiet_where q next target (Some b) = quiet_arrived _ _

quiet_return : (q : CpuState) (o : Option ℕ) → Quiet q (returns q o)
quiet_return q None = (refl, refl)
quiet_return q (Some target) = quiet_arrived target _

quiet_made : (i : Instr) (next : ℕ) (q : CpuState) → Quiet q (goes_with q next (fault_of i) (made i (scene_of q)))
quiet_made i next q = quiet_with q next (fault_of i) (made i (scene_of q))

quiet_does : (i : Instr) (next : ℕ) (q : CpuState) → Quiet q (does i next q)
quiet_does (RmReg op rm reg) next q = quiet_made (RmReg op rm reg) next q
quiet_does (Imm op rm imm) next q = quiet_made (Imm op rm imm) next q
quiet_does (RegRm op reg rm) next q = quiet_made (RegRm op reg rm) next q
quiet_does (Load op reg base disp) next q = quiet_made (Load op reg base disp) next q
quiet_does (Store op base disp reg) next q = quiet_made (Store op base disp reg) next q
quiet_does (Lea2 reg base index) next q = quiet_made (Lea2 reg base index) next q
quiet_does (Movi32 reg imm) next q = quiet_made (Movi32 reg imm) next q
quiet_does (Movs32 rm imm) next q = quiet_made (Movs32 rm imm) next q
quiet_does (Movi64 reg imm) next q = quiet_made (Movi64 reg imm) next q
quiet_does (Unary op rm) next q = quiet_made (Unary op rm) next q
quiet_does (Shift op rm count) next q = quiet_made (Shift op rm count) next q
quiet_does (Bswap reg) next q = quiet_made (Bswap reg) next q
quiet_does (Stack op reg) next q = quiet_made (Stack op reg) next q
quiet_does (JumpIfShort cond distance) next q = quiet_where q next (add_words next (word_of distance)) (condition_holds cond q.flags)
quiet_does (JumpIfNear cond distance) next q = quiet_where q next (add_words next (word_of distance)) (condition_holds cond q.flags)
quiet_does (Set cond rm) next q = quiet_made (Set cond rm) next q
quiet_does (JumpShort distance) next q = quiet_arrived _ _
quiet_does (JumpNear Jmp32 distance) next q = quiet_arrived _ _
quiet_does (JumpNear Call32 distance) next q = quiet_with q (add_words next (word_of distance)) Memory (pushes next (scene_of q))
quiet_does (JumpReg Jmpr rm) next q = quiet_arrived _ _
quiet_does (JumpReg Callr rm) next q = quiet_with q (q.registers rm) Memory (pushes next (scene_of q))
quiet_does (Bare Cqo) next q = quiet_made (Bare Cqo) next q
quiet_does (Bare Ret) next q = quiet_return q (loaded q.bytes (q.registers 4) 8)
quiet_does (Bare Nop) next q = quiet_made (Bare Nop) next q

quiet_decoded : (o : Option (Instr × ℕ)) (q : CpuState) → Quiet q (decoded o q)
quiet_decoded None q = (refl, refl)
quiet_decoded (Some (i, len)) q = quiet_does i (add_words q.pc len) q

quiet_fetch : (code : List ℕ) (q : CpuState) → Quiet q (fetch code q)
quiet_fetch code q = quiet_choice q (in_code code q.pc) _ _ (quiet_decoded (front_of (drop (q.pc - code_base) code)) q) (quiet_faults q Fetch)

quiet_enter : (name : HostName) (trash : ℕ) (q : CpuState) (o : Option ℕ) → Quiet q (enter_with name trash q o)
quiet_enter name trash q None = (refl, refl)
quiet_enter name trash q (Some link) = quiet_returned (answer_at target.X86_64 name (add_words (q.registers 4) 8) q) link _ _ q

quiet_host : (name : HostName) (trash : ℕ) (q : CpuState) → Quiet q (enter_host name trash q)
quiet_host name trash q =
    quiet_choice q (q.registers 4 % 16 == 8) _ _
    (quiet_choice q (takes_al name (q.registers 0)) _ _ (quiet_enter name trash q (loaded q.bytes (q.registers 4) 8)) (quiet_faults q Host))
    (quiet_faults q Host)

quiet_at : (o : Option HostName) (code : List ℕ) (trash : ℕ) (q : CpuState) → Quiet q (effect_at o code trash q)
quiet_at None code trash q = quiet_fetch code q
quiet_at (Some name) code trash q = quiet_host name trash q

pub x86-faults-unchanged : (code : List ℕ) (trash : ℕ) (q : CpuState) → Quiet q (effect code trash q)
x86-faults-unchanged code trash q = quiet_at (host_by_address q.pc) code trash q
