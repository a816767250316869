-- The answers of steps.
use Rattle.std.specs.Prelude.{ℕ, ◌+◌, Bool, true, false, if◌then◌else◌}
use Rattle.lg_cpu.specs.Steps.{Progress, Goes, EndedWith, Faulted}
use Rattle.lg_cpu.specs.declared.answer.CpuStep.{CpuStep}
use Rattle.lg_cpu.specs.declared.answer.CpuStep.TheVariants as cpu

-- the answer of a step after which a run has come so far
abbrev pub answer_of : Progress → CpuStep
answer_of Goes = cpu.Went
answer_of (EndedWith status) = cpu.Ended status
answer_of (Faulted kind) = cpu.Fault kind

-- how far a run has come after which a step answers this; a write that failed leaves the run where it was
abbrev pub progress_of : CpuStep → Progress
progress_of cpu.Went = Goes
progress_of (cpu.Ended status) = EndedWith status
progress_of (cpu.Fault kind) = Faulted kind
progress_of cpu.WriteFault = Goes

-- steps that go or end the run are counted
abbrev pub is_counted : CpuStep → Bool
is_counted cpu.Went = true
is_counted (cpu.Ended status) = true
is_counted (cpu.Fault kind) = false
is_counted cpu.WriteFault = false

abbrev pub counted : CpuStep → ℕ → ℕ
counted answer steps = if is_counted answer then steps + 1 else steps
