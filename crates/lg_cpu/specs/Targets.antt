-- The processors by their targets, and the run of code.
use Rattle.std.specs.Prelude.{ℕ, Bool, true, false, List, [], Option}
use Rattle.lg_base.specs.Arguments.{argument_count}
use Rattle.lg_base.specs.Parts.{heap_base}
use Rattle.lg_base.specs.Runs.{Machine, iter}
use Rattle.lg_base.specs.declared.target.Target.{Target}
use Rattle.lg_base.specs.declared.target.Target.TheVariants.{X86_64, Aarch64, Riscv64}
use Rattle.lg_cpu.specs.A64Step as a64
use Rattle.lg_cpu.specs.RvStep as rv
use Rattle.lg_cpu.specs.Starts.{start_bytes}
use Rattle.lg_cpu.specs.States.{CpuState}
use Rattle.lg_cpu.specs.Steps.{Effect, Run, Goes, machine}
use Rattle.lg_cpu.specs.X86Step as x86

-- what a step does, over this code and with this word in what nothing has set
abbrev pub effect_of : Target → List ℕ → ℕ → CpuState → Effect CpuState
effect_of X86_64 code trash s = x86.effect code trash s
effect_of Aarch64 code trash s = a64.effect code trash s
effect_of Riscv64 code trash s = rv.effect code trash s

-- the state at the start of a run with this many arguments, over the bytes of a memory and a heap mark
abbrev pub begins : Target → (count trash : ℕ) → (ℕ → Option ℕ) → ℕ → CpuState
begins X86_64 count trash bytes mark = x86.begins count trash bytes mark
begins Aarch64 count trash bytes mark = a64.begins count trash bytes mark
begins Riscv64 count trash bytes mark = rv.begins count trash bytes mark

-- and over the bytes of the data part and of the argument part
abbrev pub start_of : Target → (image args : List ℕ) → (trash : ℕ) → CpuState
start_of target image args trash = begins target (argument_count args) trash (start_bytes image args) heap_base

abbrev pub machine_of : Target → List ℕ → ℕ → Machine (Run CpuState)
machine_of target code trash = machine (effect_of target code trash)

-- a run before its first step
abbrev pub run_from : Target → (image args : List ℕ) → (trash : ℕ) → Run CpuState
run_from target image args trash = record { state = start_of target image args trash; progress = Goes; out = [] }

-- the run of code after n steps
abbrev pub run_at : Target → (code image args : List ℕ) → (trash n : ℕ) → Run CpuState
run_at target code image args trash n = iter (machine_of target code trash).step n (run_from target image args trash)

-- how many registers a processor has, and what one reads as
abbrev pub register_count : Target → ℕ
register_count X86_64 = 16
register_count Aarch64 = 32
register_count Riscv64 = 32

abbrev pub reads : Target → (ℕ → ℕ) → ℕ → ℕ
reads Riscv64 registers r = rv.read registers r
reads target registers r = registers r

-- whether it has flags
abbrev pub has_flags : Target → Bool
has_flags Riscv64 = false
has_flags target = true
