-- Many steps at once.
use Rattle.std.specs.Prelude.{◌≡◌, ℕ, ◌+◌, ◌<◌, ◌≤◌, List, [], Option}
use Rattle.std.specs.Io.KnownBytes.{Appends}
use Rattle.lg_base.specs.Runs.{iter}
use Rattle.lg_cpu.specs.Machines.{Does, Inner, Shown, StepShows, effect_in, run_of, shown_of}
use Rattle.lg_cpu.specs.States.{CpuState}
use Rattle.lg_cpu.specs.Steps.{Effect, Run}
use Rattle.lg_cpu.specs.Targets.{effect_of, machine_of}
use Rattle.lg_cpu.specs.declared.answer.CpuStep.{CpuStep}
use Rattle.lg_cpu.specs.declared.answer.CpuStep.TheVariants as cpu

-- the run of a processor, from what is seen of it
abbrev pub run_from : Shown → ℕ → Run CpuState
run_from s n = iter (machine_of s.target s.code s.trash).step n (run_of s [])

-- what its step does
abbrev pub effect_at : Shown → Effect CpuState
effect_at s = effect_of s.target s.code s.trash s.state

-- where a processor is after n steps of the run from another, with these bytes written
pub record IsAt (start here : Shown) (n : ℕ) (out : List ℕ) : Type 0 where
  pub stands : run_of here out ≡ run_from start n
  pub target : here.target ≡ start.target
  pub code : here.code ≡ start.code
  pub trash : here.trash ≡ start.trash

-- the last of at most this many steps, n of which went on as far as here: there is none, where all went on, and else its answer is another
abbrev pub EndsWith : CpuStep → (n most : ℕ) → (here new : Shown) → Option (List ℕ) → Option (List ℕ) → ℕ → ℕ → Type 0
EndsWith cpu.Went n most here new taken taken' count count' = (n ≡ most) × (new ≡ here) × (taken' ≡ taken) × (count' ≡ count)
EndsWith answer n most here new taken taken' count count' = (n < most) × StepShows (effect_at here) here new taken taken' count count' answer

-- at most this many steps of a run that goes on: some of them went on, and then the most were taken or one came to another answer. Taken and count are those
-- of the sink, before and after
pub record Advances (old new : Shown) (most : ℕ) (taken taken' : Option (List ℕ)) (count count' : ℕ) (answer : CpuStep) : Type 0 where
  pub went : ℕ
  pub here : Shown
  pub out : List ℕ
  pub between : Option (List ℕ)
  pub at : IsAt old here went out
  pub going : here.answer ≡ cpu.Went
  pub steps : here.steps ≡ old.steps + went
  pub written : Appends taken between out
  pub ends : EndsWith answer went most here new between taken' count count'

-- a run that is over answers what it answered, and nothing changes
abbrev pub AdvancesAfter : CpuStep → Shown → Shown → (most : ℕ) → Option (List ℕ) → Option (List ℕ) → ℕ → ℕ → CpuStep → Type 0
AdvancesAfter cpu.Went old new most taken taken' count count' answer = Advances old new most taken taken' count count' answer
AdvancesAfter before old new most taken taken' count count' answer = (answer ≡ before) × (new ≡ old) × (taken' ≡ taken) × (count' ≡ count)

-- the same of the processor of a target, after this many steps
abbrev pub going_on : Inner → ℕ → Shown
going_on p steps = shown_of p cpu.Went steps

-- the run from here on, where these bytes were written
abbrev pub code_run : Inner → List ℕ → ℕ → Run CpuState
code_run p out n = iter (machine_of p.fixed.target p.fixed.code p.fixed.trash).step n (run_of (going_on p 0) out)

-- this many instructions of the code lead a processor from one state to another, whatever was written before, and write nothing
pub record LeadsOver (old here : Inner) (n : ℕ) : Type 0 where
  pub stands : (out : List ℕ) → run_of (going_on here 0) out ≡ code_run old out n
  pub fixed : here.fixed ≡ old.fixed

-- after them comes one with another answer, where fewer than the most went, or none
abbrev pub StopsWith : CpuStep → (n most : ℕ) → (here new : Inner) → Type 0
StopsWith cpu.Went n most here new = new ≡ here
StopsWith answer n most here new = (n < most) × Does (effect_in here) here new answer

-- at most this many instructions of the code went, and then one came to another answer or no more were executed
pub record Executes (old new : Inner) (most : ℕ) (answer : CpuStep) (went : ℕ) : Type 0 where
  pub few : went ≤ most
  pub here : Inner
  pub leads : LeadsOver old here went
  pub stops : StopsWith answer went most here new
