-- One more of many steps.
use Rattle.std.proofs.Common.{◌≡◌, ◌≢◌, ℕ, zero, suc, ◌+◌, ◌<◌, List, [], ◌++◌, Option, sym, ap, ap₂, ◌∙◌, refl, subst, arith, append-nil}
use Rattle.lg_base.specs.Runs.{iter}
use Rattle.lg_cpu.specs.Answers.{answer_of, progress_of, counted}
use Rattle.lg_cpu.specs.Machines.{Inner, Comes, Does, Fixed, Shown, StepSays, StepShows, after_step, effect_in, run_of, shown_of}
use Rattle.lg_cpu.specs.Series.{EndsWith, Executes, IsAt, LeadsOver, StopsWith, effect_at, going_on, run_from}
use Rattle.lg_cpu.specs.States.{CpuState}
use Rattle.lg_cpu.specs.Steps.{Effect, Run, after, on_going, stepped}
use Rattle.lg_cpu.specs.Targets.{effect_of, machine_of}
use Rattle.lg_cpu.specs.declared.answer.CpuStep.{CpuStep}
use Rattle.lg_cpu.specs.declared.answer.CpuStep.TheVariants as cpu
use Rattle.lg_cpu.proofs.FollowLemmas.{back, iter_more, iter_none}

pub at_start : (start : Shown) → IsAt start start 0 []
at_start start = record { stands = sym (iter_none (stepped (effect_of start.target start.code start.trash)) (run_of start [])); target = refl; code = refl; trash = refl }

-- the next step of the run is the one that the processor takes
pub next : (start here : Shown) (n : ℕ) (out : List ℕ) → IsAt start here n out → here.answer ≡ cpu.Went
    → run_from start (n + 1) ≡ record { state = (effect_at here).to; progress = (effect_at here).progress; out = out ++ (effect_at here).written }
next start here n out at going =
    let f = effect_of start.target start.code start.trash in
    let same : f here.state ≡ effect_at here = ap (λ t. effect_of t start.code start.trash here.state) (sym at.target) ∙ ap₂ (λ code trash. effect_of here.target code trash here.state) (sym at.code) (sym at.trash) in
    iter_more (stepped f) n (run_of start []) ∙ ap (stepped f) (sym at.stands)
    ∙ ap (λ a. on_going (progress_of a) (after (run_of here out) (f here.state)) (run_of here out)) going
    ∙ ap (after (run_of here out)) same

pub then_at : (start here new : Shown) (n : ℕ) (out : List ℕ) → IsAt start here n out → here.answer ≡ cpu.Went → new ≡ after_step (effect_at here) here
    → IsAt start new (n + 1) (out ++ (effect_at here).written)
then_at start here new n out at going is =
    let e = effect_at here in
    record {
      stands = ap (λ s. run_of s (out ++ e.written)) is
          ∙ ap (λ p. record { state = e.to; progress = p; out = out ++ e.written }) (back e.progress) ∙ sym (next start here n out at going);
      target = ap (λ s. s.target) is ∙ at.target;
      code = ap (λ s. s.code) is ∙ at.code;
      trash = ap (λ s. s.trash) is ∙ at.trash;
    }

-- what is seen after a step of the processor of a target
module _ (p q : Inner) (k : ℕ) (taken taken' : Option (List ℕ)) (count count' : ℕ) where
  abbrev e : Effect CpuState
  e = effect_in p

  came : (answer : CpuStep) → Comes e p q taken taken' count count' answer → shown_of q answer (counted answer k) ≡ after_step e (going_on p k)
  came answer h =
      ap₂ (λ fixed state. record { target = fixed.target; code = fixed.code; trash = fixed.trash; state = state; answer = answer; steps = counted answer k }) h.2 h.1
      ∙ ap (λ a. record { target = p.fixed.target; code = p.fixed.code; trash = p.fixed.trash; state = e.to; answer = a; steps = counted a k }) h.0

  pub shows : (answer : CpuStep) → StepSays e p q taken taken' count count' answer
      → StepShows e (going_on p k) (shown_of q answer (counted answer k)) taken taken' count count' answer
  shows cpu.Went h = (h.0, came cpu.Went h, h.3, h.4)
  shows (cpu.Ended status) h = (h.0, came (cpu.Ended status) h, h.3, h.4)
  shows (cpu.Fault kind) h = (h.0, came (cpu.Fault kind) h, h.3, h.4)
  shows cpu.WriteFault h = (
    ap₂ (λ fixed state. record { target = fixed.target; code = fixed.code; trash = fixed.trash; state = state; answer = cpu.WriteFault; steps = k }) h.1 h.0,
    h.2,
    h.3,
  )

-- a step that came to another answer is the last
pub ends : (answer : CpuStep) (n most : ℕ) (here new : Shown) (taken taken' : Option (List ℕ)) (count count' : ℕ) → answer ≢ cpu.Went → n < most
    → StepShows (effect_at here) here new taken taken' count count' answer → EndsWith answer n most here new taken taken' count count'
ends cpu.Went n most here new taken taken' count count' other below h = absurd (other refl)
ends (cpu.Ended status) n most here new taken taken' count count' other below h = (below, h)
ends (cpu.Fault kind) n most here new taken taken' count count' other below h = (below, h)
ends cpu.WriteFault n most here new taken taken' count count' other below h = (below, h)

-- ---- instructions of the code, which write nothing
pub leads_none : (p : Inner) → LeadsOver p p 0
leads_none p = record { stands = λ out. sym (iter_none (machine_of p.fixed.target p.fixed.code p.fixed.trash).step (run_of (going_on p 0) out)); fixed = refl }

-- one more that went
pub leads_more : (old here new : Inner) (n : ℕ) (answer : CpuStep) → LeadsOver old here n → answer ≡ cpu.Went → Does (effect_in here) here new answer → LeadsOver old new (n + 1)
leads_more old here new n answer h is d = record {
  stands = λ out.
      let step = (machine_of old.fixed.target old.fixed.code old.fixed.trash).step in
      sym (iter_more step n (run_of (going_on old 0) out) ∙ ap step (sym (h.stands out)) ∙ one out);
  fixed = d.2 ∙ h.fixed;
}
  where
    e : Effect CpuState
    e = effect_in here

    same : effect_of old.fixed.target old.fixed.code old.fixed.trash here.state ≡ effect_in here
    same = ap (λ (x : Fixed). effect_of x.target x.code x.trash here.state) (sym h.fixed)

    goes : (effect_in here).progress ≡ progress_of cpu.Went
    goes = sym (back (effect_in here).progress) ∙ ap progress_of (sym d.0 ∙ is)

    one : (out : List ℕ) → after (run_of (going_on here 0) out) (effect_of old.fixed.target old.fixed.code old.fixed.trash here.state) ≡ run_of (going_on new 0) out
    one out = ap (after (run_of (going_on here 0) out)) same
        ∙ (λ i. record { state = sym d.1 i; progress = goes i; out = (ap (λ x. out ++ x) d.3 ∙ append-nil out) i })

pub iter_plus : {S : Type 0} (step : S → S) (n m : ℕ) (s : S) → iter step (n + m) s ≡ iter step m (iter step n s)
unfolding iter
iter_plus step n zero s = let none : n + 0 ≡ n = omega arith in ap (λ k. iter step k s) none
iter_plus step n (suc m) s = let more : n + suc m ≡ suc (n + m) = omega arith in ap (λ k. iter step k s) more ∙ ap step (iter_plus step n m s)

-- and the run is there too, in which they are taken
pub then_leads : (start : Shown) (p q : Inner) (k l n m : ℕ) (out : List ℕ) → IsAt start (going_on p k) n out → LeadsOver p q m → IsAt start (going_on q l) (n + m) out
then_leads start p q k l n m out at h =
    let step = (machine_of start.target start.code start.trash).step in
    record {
      stands = h.stands out
          ∙ ap (λ t. iter (machine_of t p.fixed.code p.fixed.trash).step m (run_of (going_on p 0) out)) at.target
          ∙ ap₂ (λ code trash. iter (machine_of start.target code trash).step m (run_of (going_on p 0) out)) at.code at.trash
          ∙ ap (iter step m) at.stands ∙ sym (iter_plus step n m (run_of start []));
      target = ap (λ (x : Fixed). x.target) h.fixed ∙ at.target;
      code = ap (λ (x : Fixed). x.code) h.fixed ∙ at.code;
      trash = ap (λ (x : Fixed). x.trash) h.fixed ∙ at.trash;
    }

-- where no other answer came the last is the one that is reached
pub none_stopped : (answer : CpuStep) (n most : ℕ) (here new : Inner) → answer ≡ cpu.Went → StopsWith answer n most here new → new ≡ here
none_stopped cpu.Went n most here new is h = h
none_stopped (cpu.Ended status) n most here new is h = cc
none_stopped (cpu.Fault kind) n most here new is h = cc
none_stopped cpu.WriteFault n most here new is h = cc

-- else it came to it by a step
pub one_stopped : (answer : CpuStep) (n most : ℕ) (here new : Inner) → answer ≢ cpu.Went → StopsWith answer n most here new → (n < most) × Does (effect_in here) here new answer
one_stopped cpu.Went n most here new other h = absurd (other refl)
one_stopped (cpu.Ended status) n most here new other h = h
one_stopped (cpu.Fault kind) n most here new other h = h
one_stopped cpu.WriteFault n most here new other h = h

-- a run is where the instructions led that it executed, of which none came to another answer
pub then_executed : (start : Shown) (p q : Inner) (steps n most m : ℕ) (answer : CpuStep) (out : List ℕ) → IsAt start (going_on p (steps + n)) n out → answer ≡ cpu.Went
    → Executes p q most answer m → IsAt start (going_on q (steps + (n + m))) (n + m) out
then_executed start p q steps n most m answer out at is h =
    subst (λ x. IsAt start (going_on x (steps + (n + m))) (n + m) out) (sym (none_stopped answer m most h.here q is h.stops))
    (then_leads start p h.here (steps + n) (steps + (n + m)) n m out at h.leads)

-- ---- one instruction of the code
none_led : (old here : Inner) → LeadsOver old here 0 → here ≡ old
none_led old here h =
    let same = h.stands [] ∙ iter_none (machine_of old.fixed.target old.fixed.code old.fixed.trash).step (run_of (going_on old 0) []) in
    λ i. record { state = (ap (λ (r : Run CpuState). r.state) same) i; fixed = h.fixed i }

one_led : (old here : Inner) → LeadsOver old here 1 → Does (effect_in old) old here cpu.Went
one_led old here h =
    let step = (machine_of old.fixed.target old.fixed.code old.fixed.trash).step in
    let same = h.stands [] ∙ (iter_more step 0 (run_of (going_on old 0) []) ∙ ap step (iter_none step (run_of (going_on old 0) []))) in
    (ap (λ (r : Run CpuState). answer_of r.progress) same, ap (λ (r : Run CpuState). r.state) same, h.fixed, sym (ap (λ (r : Run CpuState). r.out) same))

-- where it went, it did what the step does
pub one_went : (old new : Inner) (answer : CpuStep) (m : ℕ) → m ≡ 1 → Executes old new 1 answer m → Does (effect_in old) old new cpu.Went
one_went old new answer m is h = by answer (one_led old h.here (subst (LeadsOver old h.here) is h.leads)) h.stops
  where
    by : (a : CpuStep) → Does (effect_in old) old h.here cpu.Went → StopsWith a m 1 h.here new → Does (effect_in old) old new cpu.Went
    by cpu.Went d stop = subst (λ (x : Inner). Does (effect_in old) old x cpu.Went) (sym stop) d
    by (cpu.Ended status) d stop = let less = stop.0 in absurd (omega (arith, is, less))
    by (cpu.Fault kind) d stop = let less = stop.0 in absurd (omega (arith, is, less))
    by cpu.WriteFault d stop = let less = stop.0 in absurd (omega (arith, is, less))

-- where none went, nothing changed
pub none_went : (old new : Inner) (answer : CpuStep) (m : ℕ) → m ≡ 0 → Executes old new 1 answer m → answer ≡ cpu.Went → new ≡ old
none_went old new answer m is h went = none_stopped answer m 1 h.here new went h.stops ∙ none_led old h.here (subst (LeadsOver old h.here) is h.leads)

-- or the first came to another answer
pub none_but_one : (old new : Inner) (answer : CpuStep) (m : ℕ) → m ≡ 0 → Executes old new 1 answer m → answer ≢ cpu.Went → Does (effect_in old) old new answer
none_but_one old new answer m is h other =
    subst (λ (x : Inner). Does (effect_in x) x new answer) (none_led old h.here (subst (LeadsOver old h.here) is h.leads)) (one_stopped answer m 1 h.here new other h.stops).1
