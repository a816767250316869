-- Steps that write nothing.
use Rattle.std.proofs.Common.{◌≡◌, ℕ, ◌≤◌, true, List, Option, sym, ap, refl, subst, arith}
use Rattle.std.proofs.KnownBytes.{Appends-nil}
use Rattle.std.specs.Io.KnownBytes.{Appends}
use Rattle.lg_base.specs.Layout.{code_base}
use Rattle.lg_cpu.specs.Fetches.{in_code}
use Rattle.lg_cpu.proofs.RunLemmas.{no_host}
use Rattle.lg_cpu.specs.Steps.{Progress, Goes, EndedWith, Faulted, Effect}
use Rattle.lg_cpu.specs.Answers.{answer_of}
use Rattle.lg_cpu.specs.States.{CpuState}
use Rattle.lg_cpu.specs.X86Step.{fetch, effect_at, effect}
use Rattle.lg_cpu.specs.Machines.{Inner, Does, Comes, StepSays}
use Rattle.lg_cpu.specs.declared.answer.CpuStep.{CpuStep}
use Rattle.lg_cpu.specs.declared.answer.CpuStep.TheVariants as cpu

never : (p : Progress) → cpu.WriteFault ≡ answer_of p → ⊥
never Goes e = cc
never (EndedWith status) e = cc
never (Faulted kind) e = cc

comes : (e : Effect CpuState) (old new : Inner) (taken : Option (List ℕ)) (count : ℕ) (answer : CpuStep) → Does e old new answer → Comes e old new taken taken count count answer
comes e old new taken count answer d = (d.0, d.1, d.2, subst (Appends taken taken) (sym d.3) (Appends-nil taken), refl)

pub says-quiet : (e : Effect CpuState) (old new : Inner) (taken : Option (List ℕ)) (count : ℕ) (answer : CpuStep) → Does e old new answer → StepSays e old new taken taken count count answer
says-quiet e old new taken count cpu.Went d = comes e old new taken count cpu.Went d
says-quiet e old new taken count (cpu.Ended status) d = comes e old new taken count (cpu.Ended status) d
says-quiet e old new taken count (cpu.Fault kind) d = comes e old new taken count (cpu.Fault kind) d
says-quiet e old new taken count cpu.WriteFault d = absurd (never e.progress d.0)

-- where code stands no entry does, and a step of x86-64 fetches
pub fetches-inside : (code : List ℕ) (trash : ℕ) (q : CpuState) → in_code code q.pc ≡ true → effect code trash q ≡ fetch code q
fetches-inside code trash q e = ap (λ o. effect_at o code trash q) (no_host q.pc (let low : code_base ≤ q.pc = grind (arith, e) in low))
