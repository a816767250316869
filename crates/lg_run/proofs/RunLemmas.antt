-- One more step of a run on a processor.
use Rattle.std.proofs.Common.{◌≡◌, ℕ, ◌+◌, ◌<◌, ◌≤◌, List, [], ◌++◌, take, Option, sym, ap, ◌∙◌, subst, arith, refl}
use Rattle.std.specs.Io.KnownBytes.{Appends}
use Rattle.std.proofs.KnownBytes.{Appends-trans}
use Rattle.lg_base.specs.Runs.{Running}
use Rattle.lg_base.specs.declared.fault.FaultKind.{FaultKind}
use Rattle.lg_cpu.specs.Answers.{answer_of, counted, progress_of}
use Rattle.lg_cpu.specs.Machines.{Shown, StepShows, run_of}
use Rattle.lg_cpu.specs.Targets.{effect_of}
use Rattle.lg_cpu.specs.States.{CpuState}
use Rattle.lg_cpu.specs.Steps.{Effect, Progress, Goes, EndedWith, Faulted, machine, status_of}
use Rattle.lg_cpu.specs.declared.answer.CpuStep.{CpuStep}
use Rattle.lg_cpu.specs.declared.answer.CpuStep.TheVariants as cpu
use Rattle.lg_cpu.proofs.RunLemmas.{machine_is}
use Rattle.lg_io.specs.SinkChanges.{SinkChange, Took}
use Rattle.lg_cpu.specs.Series.{Advances, AdvancesAfter, IsAt, effect_at, run_from}
use Rattle.lg_cpu.proofs.SeriesLemmas.{next}
use Rattle.lg_run.specs.Runs.{HasRun, RunSays}
use Rattle.lg_run.specs.declared.answer.Answer.TheVariants.{Ended, Fault, StepsOut, WriteFault}
use Rattle.lg_run.proofs.OverLemmas as over

pub went : (p : Progress) → cpu.Went ≡ answer_of p → p ≡ Goes
went Goes e = refl
went (EndedWith status) e = cc
went (Faulted kind) e = cc

pub goes : (p : Progress) → status_of p ≡ Running → p ≡ Goes
goes Goes e = refl
goes (EndedWith status) e = absurd (over.ended_running e)
goes (Faulted kind) e = absurd (over.bad_running e)

-- a run that goes on has gone on
pub has_run : (start : Shown) (n k : ℕ) → n ≤ k → HasRun (run_from start) k → HasRun (run_from start) n
has_run start n k le here =
    let f = effect_of start.target start.code start.trash in
    goes (run_from start n).progress (over.going_before (machine f) (machine_is f) (run_of start []) n k le (ap status_of here))

-- ---- what the last step says of a run
ended : (p : Progress) (status : ℕ) → cpu.Ended status ≡ answer_of p → p ≡ EndedWith status
ended Goes status e = cc
ended other status e = cc

faulted : (p : Progress) (kind : FaultKind) → cpu.Fault kind ≡ answer_of p → p ≡ Faulted kind
faulted Goes kind e = cc
faulted other kind e = cc

module _ (start here new : Shown) (n most : ℕ) (out : List ℕ) (s : SinkChange) (b : Option (List ℕ)) (at : IsAt start here n out) (going : here.answer ≡ cpu.Went) (before : Appends s.taken b out) (below : n < most) where
  abbrev e : Effect CpuState
  e = effect_at here

  pub here_run : HasRun (run_from start) n
  here_run = ap (λ r. r.progress) (sym at.stands) ∙ ap progress_of going

  told : Appends b s.taken' e.written → Took s (run_from start (n + 1)).out
  told more = subst (Took s) (sym (ap (λ r. r.out) (next start here n out at going))) (Appends-trans s.taken b s.taken' out e.written before more)

  pub says_ended : (status count count' : ℕ) → StepShows e here new b s.taken' count count' (cpu.Ended status) → RunSays (run_from start) most (n + 1) s (Ended status)
  says_ended status count count' h = (
    omega arith,
    ap (λ r. r.progress) (next start here n out at going) ∙ ended e.progress status h.0,
    λ k lt. has_run start k n (omega arith) here_run,
    told h.2,
  )

  pub says_fault : (kind : FaultKind) (pc count count' : ℕ) → StepShows e here new b s.taken' count count' (cpu.Fault kind) → pc ≡ new.state.pc → RunSays (run_from start) most n s (Fault kind pc)
  says_fault kind pc count count' h at_pc = (
    below,
    here_run,
    ap (λ r. r.progress) (next start here n out at going) ∙ faulted e.progress kind h.0,
    ap (λ r. r.state.pc) (next start here n out at going) ∙ sym (at_pc ∙ ap (λ q. q.state.pc) h.1),
    told h.2,
  )

  pub says_write : (count count' : ℕ) → StepShows e here new b s.taken' count count' cpu.WriteFault → RunSays (run_from start) most n s WriteFault
  says_write count count' h =
      let first : out ≡ (run_from start n).out = ap (λ r. r.out) at.stands in
      let part = h.2 in (
        below,
        here_run,
        (
          e.written,
          ap (λ r. r.out) (next start here n out at going) ∙ ap (λ o. o ++ e.written) first,
          (part.0, part.1, subst (λ o. Took s (o ++ take part.0 e.written)) first (Appends-trans s.taken b s.taken' out (take part.0 e.written) before part.2)),
        ),
      )

-- where the most steps went
pub says_out : (start here : Shown) (n most : ℕ) (out : List ℕ) (s : SinkChange) → IsAt start here n out → here.answer ≡ cpu.Went → Took s out → n ≡ most
    → RunSays (run_from start) most most s StepsOut
says_out start here n most out s at going before same =
    subst (λ k. RunSays (run_from start) most k s StepsOut) same
    (same, ap (λ r. r.progress) (sym at.stands) ∙ ap progress_of going, subst (Took s) (ap (λ r. r.out) at.stands) before)

-- ---- what many steps say of a run
pub advanced : (old new : Shown) (most : ℕ) (taken taken' : Option (List ℕ)) (count count' : ℕ) (answer : CpuStep) → old.answer ≡ cpu.Went
    → AdvancesAfter old.answer old new most taken taken' count count' answer → Advances old new most taken taken' count count' answer
advanced old new most taken taken' count count' answer going says = subst (λ a. AdvancesAfter a old new most taken taken' count count' answer) going says

module _ (start new : Shown) (most : ℕ) (s : SinkChange) (first : start.steps ≡ 0) where
  abbrev Comes : CpuStep → Type 0
  Comes answer = Advances start new most s.taken s.taken' s.faults s.faults' answer

  -- the steps that went are all that were taken
  count_of : (answer : CpuStep) (a : Comes answer) → a.here.steps ≡ a.went
  count_of answer a = let steps = a.steps in omega (arith, steps, first)

  pub ran_to_end : (status : ℕ) → Comes (cpu.Ended status) → RunSays (run_from start) most new.steps s (Ended status)
  ran_to_end status a =
      let h = a.ends.1 in
      let steps : new.steps ≡ a.went + 1 = ap (λ q. q.steps) h.1 ∙ ap (λ x. counted x a.here.steps) (sym h.0) ∙ ap (λ n. n + 1) (count_of (cpu.Ended status) a) in
      subst (λ k. RunSays (run_from start) most k s (Ended status)) (sym steps)
      (says_ended start a.here new a.went most a.out s a.between a.at a.going a.written a.ends.0 status s.faults s.faults' h)

  pub ran_to_fault : (kind : FaultKind) (pc : ℕ) → Comes (cpu.Fault kind) → pc ≡ new.state.pc → RunSays (run_from start) most new.steps s (Fault kind pc)
  ran_to_fault kind pc a at_pc =
      let h = a.ends.1 in
      let steps : new.steps ≡ a.went = ap (λ q. q.steps) h.1 ∙ ap (λ x. counted x a.here.steps) (sym h.0) ∙ count_of (cpu.Fault kind) a in
      subst (λ k. RunSays (run_from start) most k s (Fault kind pc)) (sym steps)
      (says_fault start a.here new a.went most a.out s a.between a.at a.going a.written a.ends.0 kind pc s.faults s.faults' h at_pc)

  pub ran_to_write : Comes cpu.WriteFault → RunSays (run_from start) most new.steps s WriteFault
  ran_to_write a =
      let h = a.ends.1 in
      let steps : new.steps ≡ a.went = ap (λ q. q.steps) h.0 ∙ count_of cpu.WriteFault a in
      subst (λ k. RunSays (run_from start) most k s WriteFault) (sym steps)
      (says_write start a.here new a.went most a.out s a.between a.at a.going a.written a.ends.0 s.faults s.faults' h)

  pub ran_out : Comes cpu.Went → RunSays (run_from start) most most s StepsOut
  ran_out a =
      says_out start a.here a.went most a.out s a.at a.going (subst (λ t. Appends s.taken t a.out) (sym a.ends.2) a.written) a.ends.0
