-- A call of the processor makes the step of the definition.
use Rattle.std.proofs.Common.{◌≡◌, ◌≢◌, ℕ, List, ◌++◌, Some, refl, sym, ap, ◌∙◌}
use Rattle.lg_cpu.specs.declared.answer.CpuStep.{CpuStep}
use Rattle.lg_cpu.specs.declared.answer.CpuStep.TheVariants as cpu
use Rattle.lg_cpu.specs.Steps.{Progress, Goes, EndedWith, Faulted, Effect, Run, after, on_going}
use Rattle.lg_cpu.specs.Answers.{answer_of, progress_of}
use Rattle.lg_cpu.specs.States.{CpuState}
use Rattle.lg_cpu.specs.Targets.{effect_of, machine_of}
use Rattle.lg_cpu.specs.Machines.{Shown, StepShows, SaysAfter, after_step, run_of}
use Rattle.lg_cpu.specs.Laws.{StepsAreThose}

back : (p : Progress) → progress_of (answer_of p) ≡ p
back Goes = refl
back (EndedWith status) = refl
back (Faulted kind) = refl

abbrev Stepped : Shown → Shown → List ℕ → List ℕ → Type 0
Stepped old new out out' = (run_of new out' ≡ (machine_of old.target old.code old.trash).step (run_of old out)) × (new.target ≡ old.target) × (new.code ≡ old.code) × (new.trash ≡ old.trash)

-- a step with this effect
went : (e : Effect CpuState) (old new : Shown) (out out' : List ℕ) → old.answer ≡ cpu.Went → e ≡ effect_of old.target old.code old.trash old.state → new ≡ after_step e old → out' ≡ out ++ e.written → Stepped old new out out'
went e old new out out' going is same grown =
    let next : run_of new out' ≡ after (run_of old out) e = λ i. record { state = (same i).state; progress = (ap (λ s. progress_of s.answer) same ∙ back e.progress) i; out = grown i } in (
      next ∙ ap (after (run_of old out)) is ∙ sym (ap (λ a. on_going (progress_of a) (after (run_of old out) (effect_of old.target old.code old.trash old.state)) (run_of old out)) going),
      ap (λ s. s.target) same,
      ap (λ s. s.code) same,
      ap (λ s. s.trash) same,
    )

shows : (e : Effect CpuState) (old new : Shown) (out out' : List ℕ) (count count' : ℕ) (answer : CpuStep) → old.answer ≡ cpu.Went → e ≡ effect_of old.target old.code old.trash old.state → StepShows e old new (Some out) (Some out') count count' answer → answer ≢ cpu.WriteFault → Stepped old new out out'
shows e old new out out' count count' cpu.Went going is h ok = went e old new out out' going is h.1 h.2
shows e old new out out' count count' (cpu.Ended status) going is h ok = went e old new out out' going is h.1 h.2
shows e old new out out' count count' (cpu.Fault kind) going is h ok = went e old new out out' going is h.1 h.2
shows e old new out out' count count' cpu.WriteFault going is h ok = absurd (ok refl)

-- a run that is over
over : (old new : Shown) (out out' : List ℕ) (next : Run CpuState) → on_going (progress_of old.answer) next (run_of old out) ≡ run_of old out → next ≡ after (run_of old out) (effect_of old.target old.code old.trash old.state) → new ≡ old → Some out' ≡ Some out → Stepped old new out out'
over old new out out' next stays is same kept =
    let bytes : out' ≡ out = cc in
    ((λ i. run_of (same i) (bytes i)) ∙ sym stays ∙ ap (λ r. on_going (progress_of old.answer) r (run_of old out)) is, ap (λ s. s.target) same, ap (λ s. s.code) same, ap (λ s. s.trash) same)

by : (before : CpuStep) (old new : Shown) (out out' : List ℕ) (count count' : ℕ) (answer : CpuStep) → old.answer ≡ before
    → SaysAfter before (effect_of old.target old.code old.trash old.state) old new (Some out) (Some out') count count' answer → answer ≢ cpu.WriteFault → Stepped old new out out'
by cpu.Went old new out out' count count' answer e h ok = shows (effect_of old.target old.code old.trash old.state) old new out out' count count' answer e refl h ok
by (cpu.Ended status) old new out out' count count' answer e h ok =
    let next = after (run_of old out) (effect_of old.target old.code old.trash old.state) in
    over old new out out' next (ap (λ a. on_going (progress_of a) next (run_of old out)) e) refl h.1 h.2
by (cpu.Fault kind) old new out out' count count' answer e h ok =
    let next = after (run_of old out) (effect_of old.target old.code old.trash old.state) in
    over old new out out' next (ap (λ a. on_going (progress_of a) next (run_of old out)) e) refl h.1 h.2
by cpu.WriteFault old new out out' count count' answer e h ok = absurd (ok h.0)

pub steps-those : StepsAreThose
steps-those old new out out' count count' answer h ok = by old.answer old new out out' count count' answer refl h ok
