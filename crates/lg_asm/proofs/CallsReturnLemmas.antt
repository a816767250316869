-- A call gives back what the meaning's call returns.
use Rattle.std.proofs.Common.{◌≡◌, ◌≢◌, ℕ, zero, suc, ◌*◌, ◌≤◌, [], Option, Some, None, refl, sym, ap, ◌∙◌, subst, arith, ⊎_elim}
use Rattle.std.proofs.lemmas.Bool.{cases_lt}
use Rattle.lg_base.specs.Runs.{Status, Running, Ended, Bad, Machine, iter, IsMachine}
use Rattle.lg_carry.specs.Agreement.{meaning_of, shape_of_unit}
use Rattle.lg_cpu.specs.Targets.{machine_of}
use Rattle.lg_meaning.specs.Means as mean
use Rattle.lg_meaning.specs.States.{State}
use Rattle.lg_meaning.specs.Steps.{Ending, Left, Outcome, Goes, Ends, Undefined, ending_status}
use Rattle.lg_meaning.proofs.MeanLemmas.{means_are_machines}
use Rattle.lg_temp.specs.Paces.{KeepsPace, EndsAlike}
use Rattle.lg_temp.proofs.Steps.{iter-after}
use Rattle.lg_asm.specs.Called.{EndsAsMeant, run_of}
use Rattle.lg_asm.specs.Entered.{CallsReturn}

over-runs : {s : ℕ} → Ended s ≡ Running → ⊥
over-runs e = cc

over-bad : {s : ℕ} → Ended s ≡ Bad → ⊥
over-bad e = cc

-- the pace is at most 64 times the steps
pace-few : {P Q : Type 0} (portable : Machine P) (processor : Machine Q) (Alike : P → Q → Type 0) (p : P) (q : Q) (h : KeepsPace portable processor Alike p q) (m : ℕ) → h.pace m ≤ 64 * m
pace-few portable processor Alike p q h zero = let s = h.start in omega (arith, s)
pace-few portable processor Alike p q h (suc m) = let less = pace-few portable processor Alike p q h m in let rises = (h.rises m).1 in omega (arith, less, rises)

-- two states of one run that are over are one
one-end : {P : Type 0} (portable : Machine P) → IsMachine portable → (p : P) (j k : ℕ) → portable.status (iter portable.step j p) ≢ Running → portable.status (iter portable.step k p) ≢ Running
    → iter portable.step j p ≡ iter portable.step k p
one-end portable is p j k over-j over-k = ⊎_elim
    (λ lt. sym (iter-after portable is j k p (omega (arith, lt)) over-j))
    (λ le. iter-after portable is k j p le over-k)
    (cases_lt j k)

-- where the processor has ended at the pace of the meaning's end, both are alike there
alike-at : {P Q : Type 0} (portable : Machine P) (processor : Machine Q) (Alike : P → Q → Type 0) (p : P) (q : Q) → IsMachine portable → EndsAlike portable processor Alike p q
    → (m n status : ℕ) → portable.status (iter portable.step m p) ≡ Ended status → processor.status (iter processor.step n q) ≡ Ended status
    → Alike (iter portable.step m p) (iter processor.step n q)
alike-at portable processor Alike p q is ends m n status e f =
    let end = ends n status f in
    ⊎_elim
    (λ (h : (portable.status (iter portable.step end.0 p) ≡ Ended status) × Alike (iter portable.step end.0 p) (iter processor.step n q)).
    subst (λ x. Alike x (iter processor.step n q)) (one-end portable is p end.0 m (λ r. over-runs (sym h.0 ∙ r)) (λ r. over-runs (sym e ∙ r))) h.1)
    (λ (bad : portable.status (iter portable.step end.0 p) ≡ Bad).
    absurd (over-bad (sym e ∙ (ap portable.status (one-end portable is p m end.0 (λ r. over-runs (sym e ∙ r)) (λ r. bad-runs (sym bad ∙ r))) ∙ bad))))
    end.1
  where
    bad-runs : Bad ≡ Running → ⊥
    bad-runs x = cc

-- ---- a run of the meaning has an end only where it has ended
abbrev HasNone : Status → Option Ending → Type 0
HasNone Running ending = ending ≡ None
HasNone Bad ending = ending ≡ None
HasNone (Ended status) ending = (e : Ending) → ending ≡ Some e → ending_status e ≡ status

step-none : (f : State → Outcome) (r : mean.Run) → HasNone r.status r.ending → HasNone (mean.run_step f r).status (mean.run_step f r).ending
step-none f r h = by r.status refl h (f r.state)
  where
    by : (s : Status) → r.status ≡ s → HasNone s r.ending → (o : Outcome) → HasNone (mean.going_on s (mean.behind r o) r).status (mean.going_on s (mean.behind r o) r).ending
    by Running e none (Goes t bytes) = refl
    by Running e none (Ends x) = λ y same. let one : x ≡ y = cc in ap ending_status (sym one)
    by Running e none Undefined = none
    by (Ended status) e none o = subst (λ s. HasNone s r.ending) (sym e) none
    by Bad e none o = subst (λ s. HasNone s r.ending) (sym e) none

none-at : (f : State → Outcome) (s : State) (m : ℕ) → HasNone (iter (mean.run_step f) m (mean.run_at s [])).status (iter (mean.run_step f) m (mean.run_at s [])).ending
unfolding iter
none-at f s zero = refl
none-at f s (suc m) = step-none f (iter (mean.run_step f) m (mean.run_at s [])) (none-at f s m)

-- where it has returned it has ended, with status 0
returned-ended : (r : mean.Run) (answer : Option ℕ) → HasNone r.status r.ending → mean.ending_of r ≡ Some (Left answer) → r.status ≡ Ended 0
returned-ended r answer = by r.status refl
  where
    by : (s : Status) → r.status ≡ s → HasNone s r.ending → mean.ending_in s r.ending ≡ Some (Left answer) → r.status ≡ Ended 0
    by Running e none is = cc
    by Bad e none is = let no = sym none ∙ is in cc
    by (Ended status) e none is = e ∙ ap Ended (sym (none (Left answer) is))

pub calls-return : CallsReturn
calls-return code addresses unit target sp trash s q a m answer is =
    let meaning = meaning_of unit addresses in
    let processor = machine_of target code trash in
    let r = mean.run_at s [] in
    let ended : meaning.status (iter meaning.step m r) ≡ Ended 0 = returned-ended (iter meaning.step m r) answer (none-at _ s m) is in
    let same = a.paces.same m (λ bad. over-bad (sym ended ∙ bad)) in
    let there : processor.status (iter processor.step (a.paces.pace m) (run_of q)) ≡ Ended 0 = same.status ∙ ended in
    let meant = alike-at meaning processor (EndsAsMeant target sp q) r (run_of q) (means_are_machines unit.nodes (shape_of_unit unit) addresses).0 a.ends m (a.paces.pace m) 0 ended there in record {
      steps = a.paces.pace m;
      few = pace-few meaning processor _ r (run_of q) a.paces m;
      ended = there;
      out = same.out;
      as_meant = meant;
      returned = meant.returned answer is;
    }
