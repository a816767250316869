-- Where a run of the portable machine is, in the words of the portable meaning.
use Rattle.std.specs.Prelude.{◌≡◌, ◌<◌, ◌≤◌, ℕ, ◌+◌, List, ◌++◌, length, take, Option, Some, None, ⊤}
use Rattle.std.specs.Io.KnownBytes.{Appends}
use Rattle.lg_base.specs.Runs.{Ended, Bad, iter}
use Rattle.lg_io.specs.Counts.{Rose}
use Rattle.lg_meaning.specs.States.{State}
use Rattle.lg_meaning.specs.Means.{Run, run_at, run_step}
use Rattle.lg_meaning.specs.Steps.{Ending, Outcome, ending_status}
use Rattle.lg_mean.specs.declared.mean_step.MeanStep.{MeanStep}
use Rattle.lg_mean.specs.declared.mean_step.MeanStep.TheVariants as mean
use Rattle.lg_mean.specs.declared.run.RunEnd.{RunEnd}
use Rattle.lg_mean.specs.declared.run.RunEnd.TheVariants as runs_end

-- after n steps the meaning goes on at a state, and out grew by exactly the bytes that it has written
pub record HasGoneOn (meaning : ℕ → Run) (n : ℕ) (s : State) (out out' : Option (List ℕ)) : Type 0 where
  pub bytes : List ℕ
  pub stands : meaning n ≡ run_at s bytes
  pub written : Appends out out' bytes

-- after n steps the meaning goes on at a state, and out grew by the bytes that it has written, and then by a part of those of the next
-- step, from the first one on, in which a write failed
pub record FailsToWrite (meaning : ℕ → Run) (n : ℕ) (s : State) (out out' : Option (List ℕ)) (faults faults' : ℕ) : Type 0 where
  pub bytes : List ℕ
  pub stands : meaning n ≡ run_at s bytes
  pub next : State
  pub more : List ℕ
  pub goes : meaning (n + 1) ≡ run_at next (bytes ++ more)
  pub part : ℕ
  pub short : part < length more
  pub written : Appends out out' (bytes ++ take part more)
  pub rose : Rose faults faults'

-- the step after the first n ends the meaning with a status; it writes nothing, and the state stays
abbrev pub EndsAfter : (ℕ → Run) → ℕ → ℕ → Type 0
EndsAfter meaning n status = (e : Ending) × (ending_status e ≡ status) × (meaning (n + 1) ≡ record (meaning n) { status = Ended status; ending = Some e })

-- the step after the first n is undefined
abbrev pub IsUndefinedAfter : (ℕ → Run) → ℕ → Type 0
IsUndefinedAfter meaning n = meaning (n + 1) ≡ record (meaning n) { status = Bad }

-- where a run of at most this many steps is after n steps, at a state whose node has a line
abbrev pub ComesTo : (ℕ → Run) → RunEnd → (n most : ℕ) → State → (line : ℕ) → (out out' : Option (List ℕ)) → (faults faults' : ℕ) → Type 0
ComesTo meaning (runs_end.Ended status) n most s line out out' faults faults' = (n ≤ most)
    × ((k : ℕ) × (n ≡ k + 1) × HasGoneOn meaning k s out out' × EndsAfter meaning k status)
ComesTo meaning (runs_end.Undefined at) n most s line out out' faults faults' = (n < most) × HasGoneOn meaning n s out out' × IsUndefinedAfter meaning n
    × (at ≡ line)
ComesTo meaning runs_end.StepsOut n most s line out out' faults faults' = (n ≡ most) × HasGoneOn meaning n s out out'
ComesTo meaning runs_end.WriteFault n most s line out out' faults faults' = (n < most) × FailsToWrite meaning n s out out' faults faults'

-- the sink's count of faults stays, but where a write failed
abbrev pub KeepsCountAfter : RunEnd → (faults faults' : ℕ) → Type 0
KeepsCountAfter runs_end.WriteFault faults faults' = ⊤
KeepsCountAfter answer faults faults' = faults' ≡ faults

-- the answer that steps after a run repeat
abbrev pub over_after : RunEnd → Option MeanStep
over_after (runs_end.Ended status) = Some (mean.Ended status)
over_after (runs_end.Undefined line) = Some (mean.Undefined line)
over_after runs_end.StepsOut = None
over_after runs_end.WriteFault = Some mean.WriteFault

-- this many steps of the meaning, each of which does this at a state, lead from one state to another, whatever was written before, and write nothing
abbrev pub GoesFor : (State → Outcome) → ℕ → State → State → Type 0
GoesFor f n s u = (bytes : List ℕ) → iter (run_step f) n (run_at s bytes) ≡ run_at u bytes
