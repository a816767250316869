-- One more step of a run.
use Rattle.std.proofs.Common.{◌≡◌, ◌<◌, ◌≤◌, ℕ, zero, suc, ◌+◌, List, [], ◌++◌, Option, None, IfNone, refl, sym, ap, ◌∙◌, subst, inl, inr, append-nil, take, arith}
use Rattle.std.specs.Io.KnownBytes.{Appends}
use Rattle.std.proofs.KnownBytes.{Appends-trans, Appends-nil}
use Rattle.lg_base.specs.Runs.{iter}
use Rattle.lg_io.specs.Counts.{Rose}
use Rattle.lg_node.specs.Nodes.{LabelledNodes}
use Rattle.lg_node.specs.Shapes.{TextShape}
use Rattle.lg_meaning.specs.States.{State}
use Rattle.lg_meaning.specs.Steps.{Outcome, Goes, Ends, Undefined}
use Rattle.lg_meaning.specs.Texts.{step}
use Rattle.lg_meaning.specs.Means.{Run, run_at, run_step, behind, mean_from}
use Rattle.lg_meaning.specs.Laws.{StepsAreMeans}
use Rattle.lg_mean.specs.declared.mean_step.MeanStep.{MeanStep}
use Rattle.lg_mean.specs.declared.mean_step.MeanStep.TheVariants as mean
use Rattle.lg_mean.specs.declared.run.RunEnd.TheVariants as runs_end
use Rattle.lg_mean.specs.Says.{Steps}
use Rattle.lg_mean.specs.Portables.{counts, over_of}
use Rattle.lg_mean.specs.Programs.{LabelTable}
use Rattle.lg_mean.specs.Runs.{GoesFor, HasGoneOn, FailsToWrite, EndsAfter, IsUndefinedAfter, ComesTo}

-- what an answer of a step says of a run that went on after k steps
abbrev pub Then : (ℕ → Run) → ℕ → (line : State → ℕ) → MeanStep → State → (out out' : Option (List ℕ)) → (faults faults' : ℕ) → Type 0
Then runs k line mean.Went s out out' faults faults' = HasGoneOn runs (k + 1) s out out'
Then runs k line (mean.Ended status) s out out' faults faults' = HasGoneOn runs k s out out' × EndsAfter runs k status
Then runs k line (mean.Undefined at) s out out' faults faults' = HasGoneOn runs k s out out' × IsUndefinedAfter runs k × (at ≡ line s)
Then runs k line mean.WriteFault s out out' faults faults' = FailsToWrite runs k s out out' faults faults'

-- after no step the meaning is at its start
pub starts : (l : LabelledNodes) (shape : TextShape) (addresses : List ℕ) (start : State) → mean_from l shape addresses start 0 ≡ run_at start []
unfolding iter
starts l shape addresses start = refl

-- a run that is at its start has written nothing
pub goes_at_once : (runs : ℕ → Run) (s : State) (out : Option (List ℕ)) → runs 0 ≡ run_at s [] → HasGoneOn runs 0 s out out
goes_at_once runs s out e = record { bytes = []; stands = e; written = Appends-nil out }

module _ (runs : ℕ → Run) (k : ℕ) (line : State → ℕ) (old : State) (bytes : List ℕ) (stands : runs k ≡ run_at old bytes) (out mid out' : Option (List ℕ)) (written : Appends out mid bytes) where
  stays_there : Appends mid out' [] → HasGoneOn runs k old out out'
  stays_there h = record { bytes = bytes; stands = stands; written = subst (Appends out out') (append-nil bytes) (Appends-trans out mid out' bytes [] written h) }

  by_outcome : (o : Outcome) → runs (k + 1) ≡ behind (run_at old bytes) o → (answer : MeanStep) (new : State) (faults faults' : ℕ) → Steps o (line old) old answer new mid out' faults faults' → Then runs k line answer new out out' faults faults'
  by_outcome (Goes t more) next answer new faults faults' (inl x) = rw (x.0, x.1) record { bytes = bytes ++ more; stands = next; written = Appends-trans out mid out' bytes more written x.2 }
  by_outcome (Goes t more) next answer new faults faults' (inr x) = rw (x.0, x.1)
      record { bytes = bytes; stands = stands; next = t; more = more; goes = next; part = x.2.0; short = x.2.1; written = Appends-trans out mid out' bytes (take x.2.0 more) written x.2.2; rose = x.3 }
  by_outcome (Ends e) next answer new faults faults' x = rw (x.0, x.1) (stays_there x.2, (e, refl, next ∙ ap (λ (r : Run). behind r (Ends e)) (sym stands)))
  by_outcome Undefined next answer new faults faults' x = rw (x.0, x.1) (stays_there x.2, next ∙ ap (λ (r : Run). behind r Undefined) (sym stands), refl)

-- where a run goes on after k steps, the next step of a machine that has not answered its last says
pub then_says : StepsAreMeans → (l : LabelledNodes) (shape : TextShape) (labels labels' : LabelTable) (start : State) (k : ℕ) (line : State → ℕ) (old new : State) (over : Option MeanStep) (answer answer' : MeanStep)
    (out mid out' : Option (List ℕ)) (faults faults' : ℕ) → over ≡ None → labels' ≡ labels → answer ≡ answer'
    → HasGoneOn (mean_from l shape labels.addresses start) k old out mid
    → IfNone over (Steps (step l shape labels'.addresses old) (line old) old answer new mid out' faults faults')
    → Then (mean_from l shape labels.addresses start) k line answer' new out out' faults faults'
then_says law l shape labels labels' start k line old new over answer answer' out mid out' faults faults' running same is g h =
    let says : Steps (step l shape labels.addresses old) (line old) old answer new mid out' faults faults' =
    subst (λ (t : LabelTable). Steps (step l shape t.addresses old) (line old) old answer new mid out' faults faults') same
    (subst (λ (o : Option MeanStep). IfNone o (Steps (step l shape labels'.addresses old) (line old) old answer new mid out' faults faults')) running h) in
    subst (λ (a : MeanStep). Then (mean_from l shape labels.addresses start) k line a new out out' faults faults') is
    (by_outcome (mean_from l shape labels.addresses start) k line old g.bytes g.stands out mid out' g.written (step l shape labels.addresses old) (law l shape labels.addresses start old g.bytes k g.stands) answer new faults faults' says)

-- a count that rose since later rose
rose_since : (before mid now : ℕ) → before ≤ mid → Rose mid now → Rose before now
rose_since before mid now le h = omega (arith, le, h)

-- ---- how far the run has come
module _ (runs : ℕ → Run) (line : State → ℕ) (k n most : ℕ) (s : State) (out out' : Option (List ℕ)) (faults faults' : ℕ) where
  pub ended : (status : ℕ) → n ≡ k + 1 → k < most → Then runs k line (mean.Ended status) s out out' faults faults' → ComesTo runs (runs_end.Ended status) n most s (line s) out out' faults faults'
  ended status e lt t = (omega (arith, e, lt), (k, e, t.0, t.1))

  pub undefined : (at : ℕ) → n ≡ k → k < most → Then runs k line (mean.Undefined at) s out out' faults faults' → ComesTo runs (runs_end.Undefined at) n most s (line s) out out' faults faults'
  undefined at e lt t = rw e (lt, t.0, t.1, t.2)

  pub faulted : (mid : ℕ) → faults ≤ mid → n ≡ k → k < most → Then runs k line mean.WriteFault s out out' mid faults' → ComesTo runs runs_end.WriteFault n most s (line s) out out' faults faults'
  faulted mid later e lt t = rw e (lt, record { bytes = t.bytes; stands = t.stands; next = t.next; more = t.more; goes = t.goes; part = t.part; short = t.short; written = t.written; rose = rose_since faults mid faults' later t.rose })

-- how many steps a machine counts after a step
pub counted : (over : Option MeanStep) (before after : ℕ) (answer answer' : MeanStep) → over ≡ None → answer ≡ answer' → IfNone over (after ≡ before + counts answer) → after ≡ before + counts answer'
counted over before after answer answer' running is h = subst (λ (a : MeanStep). after ≡ before + counts a) is (subst (λ (o : Option MeanStep). IfNone o (after ≡ before + counts answer)) running h)

-- the answer that a machine repeats after a step
pub running_on : (over over' : Option MeanStep) (answer answer' : MeanStep) → over ≡ None → answer ≡ answer' → IfNone over (over' ≡ over_of answer) → over' ≡ over_of answer'
running_on over over' answer answer' running is h = subst (λ (a : MeanStep). over' ≡ over_of a) is (subst (λ (o : Option MeanStep). IfNone o (over' ≡ over_of answer)) running h)

-- ---- steps that write nothing
pub goes_none : (f : State → Outcome) (s : State) → GoesFor f 0 s s
unfolding iter
goes_none f s bytes = refl

-- one more
pub goes_more : (f g : State → Outcome) (n : ℕ) (s t u : State) → g ≡ f → GoesFor f n s t → g t ≡ Goes u [] → GoesFor f (n + 1) s u
unfolding iter
goes_more f g n s t u same h goes bytes =
    let more : n + 1 ≡ suc n = omega arith in
    ap (λ k. iter (run_step f) k (run_at s bytes)) more ∙ ap (run_step f) (h bytes)
    ∙ ap (behind (run_at t bytes)) (sym (ap (λ (k : State → Outcome). k t) same) ∙ goes) ∙ ap (run_at u) (append-nil bytes)

pub iter_plus : {S : Type 0} (step : S → S) (n m : ℕ) (s : S) → iter step (n + m) s ≡ iter step m (iter step n s)
unfolding iter
iter_plus step n zero s = let none : n + 0 ≡ n = omega arith in ap (λ k. iter step k s) none
iter_plus step n (suc m) s = let more : n + suc m ≡ suc (n + m) = omega arith in ap (λ k. iter step k s) more ∙ ap step (iter_plus step n m s)

-- after them the run is there
pub goes_for : (l : LabelledNodes) (shape : TextShape) (labels labels' : LabelTable) (start : State) (k n : ℕ) (s u : State) (out out' : Option (List ℕ)) → labels' ≡ labels
    → HasGoneOn (mean_from l shape labels.addresses start) k s out out' → GoesFor (step l shape labels'.addresses) n s u
    → HasGoneOn (mean_from l shape labels.addresses start) (k + n) u out out'
goes_for l shape labels labels' start k n s u out out' same g h = record {
  bytes = g.bytes;
  stands = iter_plus (run_step (step l shape labels.addresses)) k n (run_at start []) ∙ ap (iter (run_step (step l shape labels.addresses)) n) g.stands
      ∙ subst (λ (t : LabelTable). GoesFor (step l shape t.addresses) n s u) same h g.bytes;
  written = g.written;
}

-- ---- one step that writes nothing
pub one_gone : (f : State → Outcome) (n : ℕ) (s u : State) → n ≡ 1 → GoesFor f n s u → f s ≡ Goes u []
unfolding iter
one_gone f n s u one h = by (f s) (subst (λ k. iter (run_step f) k (run_at s []) ≡ run_at u []) one (h []))
  where
    by : (o : Outcome) → behind (run_at s []) o ≡ run_at u [] → o ≡ Goes u []
    by (Goes t bytes) e = λ i. Goes ((ap (λ (r : Run). r.state) e) i) ((ap (λ (r : Run). r.out) e) i)
    by (Ends x) e = let no = ap (λ (r : Run). r.status) e in cc
    by Undefined e = let no = ap (λ (r : Run). r.status) e in cc

pub none_gone : (f : State → Outcome) (n : ℕ) (s u : State) → n ≡ 0 → GoesFor f n s u → u ≡ s
unfolding iter
none_gone f n s u none h = sym (ap (λ (r : Run). r.state) (subst (λ k. iter (run_step f) k (run_at s []) ≡ run_at u []) none (h [])))
