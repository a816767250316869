-- What holds of every step of the processors.
use Rattle.std.specs.Prelude.{◌≡◌, ◌≢◌, ℕ, ◌-◌, ◌%◌, ◌^◌, ◌<◌, ◌≤◌, true, List, [], ◌++◌, length, drop, slice_index, Option, Some, ⊤}
use Rattle.std.specs.Io.KnownBytes.{Appends}
use Rattle.lg_base.specs.declared.target.Target.{Target}
use Rattle.lg_base.specs.Fronts.{BeginsWith}
use Rattle.lg_base.specs.Layout.{code_base}
use Rattle.lg_base.specs.Runs.{IsMachine}
use Rattle.lg_host.specs.Host.{heap_end}
use Rattle.lg_rv.specs.Spelling.{IsInstr, spelling}
use Rattle.lg_rv.specs.declared.instruction.Instr.{Instr}
use Rattle.lg_base.specs.declared.fault.FaultKind.TheVariants.{Decode}
use Rattle.lg_cpu.specs.Fetches.{in_code}
use Rattle.lg_cpu.specs.Steps.{Progress, Goes, EndedWith, Faulted, Effect, faults}
use Rattle.lg_cpu.specs.States.{CpuState}
use Rattle.lg_a64.specs.Spelling as a64_spelling
use Rattle.lg_a64.specs.declared.instruction.Instr as a64_instr
use Rattle.lg_x86.specs.Spelling as x86_spelling
use Rattle.lg_x86.specs.declared.instruction.Instr as x86_instr
use Rattle.lg_cpu.specs.A64Step as a64
use Rattle.lg_cpu.specs.RvStep.{act, effect}
use Rattle.lg_cpu.specs.X86Step as x86
use Rattle.lg_cpu.specs.Targets.{effect_of, machine_of}
use Rattle.lg_cpu.specs.Machines.{Shown, CpuSays, run_of, shown_at_start, IsRunOf}
use Rattle.lg_cpu.specs.declared.answer.CpuStep.{CpuStep}
use Rattle.lg_cpu.specs.declared.answer.CpuStep.TheVariants as cpu

-- ---- a step that is answered without a failed write is the step of the definition; code and trash word stay
abbrev pub StepsAreThose : Type 0
StepsAreThose = (old new : Shown) (out out' : List ℕ) (count count' : ℕ) (answer : CpuStep)
    → CpuSays old new (Some out) (Some out') count count' answer → answer ≢ cpu.WriteFault
    → (run_of new out' ≡ (machine_of old.target old.code old.trash).step (run_of old out)) × (new.target ≡ old.target) × (new.code ≡ old.code)
    × (new.trash ≡ old.trash)

-- a processor that was just made is its run before the first step
abbrev pub StartsAreRuns : Type 0
StartsAreRuns = (target : Target) (code image args : List ℕ) (trash : ℕ) → IsRunOf image args [] (shown_at_start target code image args trash)

-- what is seen after a step, and the bytes that the step wrote
pub record GoesOnAsRun (image args out : List ℕ) (new : Shown) (taken taken' : Option (List ℕ)) : Type 0 where
  pub bytes : List ℕ
  pub written : Appends taken taken' bytes
  pub run : IsRunOf image args (out ++ bytes) new

-- one that is its run is so after each step that is answered without a failed write
abbrev pub StepsFollowRuns : Type 0
StepsFollowRuns = (image args out : List ℕ) (old new : Shown) (taken taken' : Option (List ℕ)) (count count' : ℕ) (answer : CpuStep)
    → IsRunOf image args out old → CpuSays old new taken taken' count count' answer → answer ≢ cpu.WriteFault → GoesOnAsRun image args out new taken taken'

-- ---- where an instruction stands, the step is the instruction's: on RV64IM, AArch64 and x86-64
abbrev pub RvExecutesWhatStands : Type 0
RvExecutesWhatStands = (code more : List ℕ) (trash : ℕ) (q : CpuState) (i : Instr) → IsInstr i → code_base ≤ q.pc → q.pc % 4 ≡ 0
    → drop (q.pc - code_base) code ≡ spelling i ++ more
    → effect code trash q ≡ act i q

abbrev pub A64ExecutesWhatStands : Type 0
A64ExecutesWhatStands = (code more : List ℕ) (trash : ℕ) (q : CpuState) (i : a64_instr.Instr) → a64_spelling.IsInstr i → code_base ≤ q.pc
    → q.pc % 4 ≡ 0 → drop (q.pc - code_base) code ≡ a64_spelling.spelling i ++ more
    → a64.effect code trash q ≡ a64.act i q

abbrev pub X86ExecutesWhatStands : Type 0
X86ExecutesWhatStands = (code more : List ℕ) (trash : ℕ) (q : CpuState) (i : x86_instr.Instr) → x86_spelling.IsInstr i → code_base ≤ q.pc
    → drop (q.pc - code_base) code ≡ x86_spelling.spelling i ++ more
    → x86.effect code trash q ≡ x86.act i (length (x86_spelling.spelling i)) q

-- ---- and where none is at an address of the code, the step is a Decode fault: on RV64IM, AArch64 and x86-64
abbrev pub AreBytes : List ℕ → Type 0
AreBytes code = (k : ℕ) → slice_index code k < 256

-- no instruction's spelling begins the bytes
abbrev pub BeginsNone : {I : Type 0} → (I → List ℕ) → (I → Type 0) → List ℕ → Type 0
BeginsNone {I} spelling fits bytes = (i : I) → BeginsWith spelling fits bytes i → ⊥

abbrev pub RvExecutesNothingElse : Type 0
RvExecutesNothingElse = (code : List ℕ) (trash : ℕ) (q : CpuState) → AreBytes code → in_code code q.pc ≡ true → q.pc % 4 ≡ 0
    → BeginsNone spelling IsInstr (drop (q.pc - code_base) code) → effect code trash q ≡ faults q Decode

abbrev pub A64ExecutesNothingElse : Type 0
A64ExecutesNothingElse = (code : List ℕ) (trash : ℕ) (q : CpuState) → AreBytes code → in_code code q.pc ≡ true → q.pc % 4 ≡ 0
    → BeginsNone a64_spelling.spelling a64_spelling.IsInstr (drop (q.pc - code_base) code) → a64.effect code trash q ≡ faults q Decode

abbrev pub X86ExecutesNothingElse : Type 0
X86ExecutesNothingElse = (code : List ℕ) (trash : ℕ) (q : CpuState) → AreBytes code → in_code code q.pc ≡ true
    → BeginsNone x86_spelling.spelling x86_spelling.IsInstr (drop (q.pc - code_base) code) → x86.effect code trash q ≡ faults q Decode

-- ---- a step that faults leaves everything as it was
abbrev pub OnFault : Progress → Type 0 → Type 0
OnFault (Faulted kind) P = P
OnFault Goes P = ⊤
OnFault (EndedWith status) P = ⊤

abbrev pub IsUnchanged : CpuState → Effect CpuState → Type 0
IsUnchanged q e = (e.to ≡ q) × (e.written ≡ [])

abbrev pub FaultsChangeNothing : Type 0
FaultsChangeNothing = (target : Target) (code : List ℕ) (trash : ℕ) (q : CpuState)
    → OnFault (effect_of target code trash q).progress (IsUnchanged q (effect_of target code trash q))

-- ---- words stay words
-- the program counter and the registers hold words, the memory holds bytes, and the heap mark lies in the heap
pub record IsSound (q : CpuState) : Type 0 where
  pub pc : q.pc < 2 ^ 64
  pub words : (r : ℕ) → q.registers r < 2 ^ 64
  pub bytes : (a b : ℕ) → q.bytes a ≡ Some b → b < 256
  pub mark : q.mark ≤ heap_end

abbrev pub StaysSound : Type 0
StaysSound = (target : Target) (code : List ℕ) (trash : ℕ) (q : CpuState) → AreBytes code → trash < 2 ^ 64 → IsSound q
    → IsSound (effect_of target code trash q).to

-- ---- runs are those of a machine: one that is over stays, and what is written stays written
abbrev pub RunsAreMachines : Type 0
RunsAreMachines = (target : Target) (code : List ℕ) (trash : ℕ) → IsMachine (machine_of target code trash)
