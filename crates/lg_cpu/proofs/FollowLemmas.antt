-- A processor is the run of its code, step by step.
use Rattle.std.proofs.Common.{◌≡◌, ◌≢◌, ℕ, ◌+◌, List, [], ◌++◌, Option, refl, sym, ap, ◌∙◌, subst, add-one, append-nil}
use Rattle.std.specs.Io.KnownBytes.{Appends}
use Rattle.std.proofs.KnownBytes.{Appends-nil}
use Rattle.lg_base.specs.Runs.{iter}
use Rattle.lg_cpu.specs.declared.answer.CpuStep.{CpuStep}
use Rattle.lg_cpu.specs.declared.answer.CpuStep.TheVariants as cpu
use Rattle.lg_cpu.specs.Steps.{Progress, Goes, EndedWith, Faulted, Effect, after, on_going}
use Rattle.lg_cpu.specs.Answers.{answer_of, progress_of, counted}
use Rattle.lg_cpu.specs.States.{CpuState}
use Rattle.lg_cpu.specs.Targets.{effect_of, machine_of, run_from, run_at}
use Rattle.lg_cpu.specs.Machines.{Shown, StepShows, SaysAfter, after_step, run_of, steps_made, IsRunOf}
use Rattle.lg_cpu.specs.Laws.{StartsAreRuns, StepsFollowRuns, GoesOnAsRun}

pub iter_none : {S : Type 0} (step : S → S) (s : S) → iter step 0 s ≡ s
unfolding iter
iter_none step s = refl

pub iter_more : {S : Type 0} (step : S → S) (n : ℕ) (s : S) → iter step (n + 1) s ≡ step (iter step n s)
unfolding iter
iter_more step n s = ap (λ k. iter step k s) (add-one n)

pub starts-run : StartsAreRuns
starts-run target code image args trash = sym (iter_none (machine_of target code trash).step (run_from target image args trash))

-- the steps made after a step of a run that goes on
made : (p : Progress) (n : ℕ) → steps_made (answer_of p) (counted (answer_of p) n) ≡ n + 1
made Goes n = refl
made (EndedWith status) n = refl
made (Faulted kind) n = refl

pub back : (p : Progress) → progress_of (answer_of p) ≡ p
back Goes = refl
back (EndedWith status) = refl
back (Faulted kind) = refl

module _ (image args out : List ℕ) (old new : Shown) (taken taken' : Option (List ℕ)) (is : IsRunOf image args out old) where
  abbrev e : Effect CpuState
  e = effect_of old.target old.code old.trash old.state

  -- after a step with the effect of the definition
  went : old.answer ≡ cpu.Went → new ≡ after_step e old → Appends taken taken' e.written → GoesOnAsRun image args out new taken taken'
  went going same told = record {
    bytes = e.written;
    written = told;
    run = subst (λ (s : Shown). IsRunOf image args (out ++ e.written) s) (sym same) behind;
  }
    where
      next : run_of (after_step e old) (out ++ e.written) ≡ after (run_of old out) e
      next = λ i. record { state = e.to; progress = back e.progress i; out = out ++ e.written }

      goes : (machine_of old.target old.code old.trash).step (run_of old out) ≡ after (run_of old out) e
      goes = ap (λ a. on_going (progress_of a) (after (run_of old out) e) (run_of old out)) going

      here : run_of old out ≡ run_at old.target old.code image args old.trash old.steps
      here = is ∙ ap (λ a. run_at old.target old.code image args old.trash (steps_made a old.steps)) going

      behind : IsRunOf image args (out ++ e.written) (after_step e old)
      behind =
          next ∙ sym goes ∙ ap (machine_of old.target old.code old.trash).step here ∙ sym (iter_more (machine_of old.target old.code old.trash).step old.steps (run_from old.target image args old.trash))
          ∙ ap (λ n. run_at old.target old.code image args old.trash n) (sym (made e.progress old.steps))

  shows : (count count' : ℕ) (answer : CpuStep) → old.answer ≡ cpu.Went → StepShows e old new taken taken' count count' answer → answer ≢ cpu.WriteFault → GoesOnAsRun image args out new taken taken'
  shows count count' cpu.Went going h ok = went going h.1 h.2
  shows count count' (cpu.Ended status) going h ok = went going h.1 h.2
  shows count count' (cpu.Fault kind) going h ok = went going h.1 h.2
  shows count count' cpu.WriteFault going h ok = absurd (ok refl)

  -- a run that is over stays
  over : new ≡ old → taken' ≡ taken → GoesOnAsRun image args out new taken taken'
  over same kept = record {
    bytes = [];
    written = subst (λ (o : Option (List ℕ)). Appends taken o []) (sym kept) (Appends-nil taken);
    run = subst (λ (s : Shown). IsRunOf image args (out ++ []) s) (sym same) (subst (λ bs. IsRunOf image args bs old) (sym (append-nil out)) is);
  }

  by : (before : CpuStep) (count count' : ℕ) (answer : CpuStep) → old.answer ≡ before → SaysAfter before e old new taken taken' count count' answer → answer ≢ cpu.WriteFault → GoesOnAsRun image args out new taken taken'
  by cpu.Went count count' answer going h ok = shows count count' answer going h ok
  by (cpu.Ended status) count count' answer going h ok = over h.1 h.2
  by (cpu.Fault kind) count count' answer going h ok = over h.1 h.2
  by cpu.WriteFault count count' answer going h ok = absurd (ok h.0)

pub steps-follow : StepsFollowRuns
steps-follow image args out old new taken taken' count count' answer is h ok = by image args out old new taken taken' is old.answer count count' answer refl h ok
