-- The outcome of a step of any of the processors, and runs of steps. S is the processor's state.
use Rattle.std.specs.Prelude.{ℕ, ◌==◌, List, [], ◌++◌, if◌then◌else◌}
use Rattle.lg_base.specs.Layout.{stop_address}
use Rattle.lg_base.specs.Runs.{Status, Running, Ended, Bad, Machine}
use Rattle.lg_base.specs.declared.fault.FaultKind.{FaultKind}

-- how far a run has come
pub data Progress : Type 0 where
  Goes : Progress
  EndedWith : (status : ℕ) → Progress
  Faulted : (kind : FaultKind) → Progress

-- what a step does: the state that it leads to, how far the run has then come, and the bytes that it writes
pub record Effect (S : Type 0) : Type 0 where
  pub to : S
  pub progress : Progress
  pub written : List ℕ

-- a run: its state, how far it has come, and the bytes that it has written
pub record Run (S : Type 0) : Type 0 where
  pub state : S
  pub progress : Progress
  pub out : List ℕ

-- a run has ended where the program counter is the stop address
abbrev pub arrived : ℕ → Progress
arrived pc = if pc == stop_address then EndedWith 0 else Goes

-- a fault leaves registers, memory and output as they were
abbrev pub faults : {S : Type 0} → S → FaultKind → Effect S
faults s kind = record { to = s; progress = Faulted kind; written = [] }

abbrev pub after : {S : Type 0} → Run S → Effect S → Run S
after r e = record { state = e.to; progress = e.progress; out = r.out ++ e.written }

-- a run that is over stays
abbrev pub on_going : {S : Type 0} → Progress → Run S → Run S → Run S
on_going Goes next r = next
on_going (EndedWith status) next r = r
on_going (Faulted kind) next r = r

-- the run one step further, where a step from each state has this effect
abbrev pub stepped : {S : Type 0} → (S → Effect S) → Run S → Run S
stepped effect r = on_going r.progress (after r (effect r.state)) r

abbrev pub status_of : Progress → Status
status_of Goes = Running
status_of (EndedWith status) = Ended status
status_of (Faulted kind) = Bad

abbrev pub machine : {S : Type 0} → (S → Effect S) → Machine (Run S)
machine effect = record { step = stepped effect; status = λ r. status_of r.progress; out = λ r. r.out }
