-- A step that faults leaves everything as it was: what the processors share.
use Rattle.std.proofs.Common.{ℕ, Bool, true, false, Option, refl}
use Rattle.std.specs.Prelude.{◌==◌, if◌then◌else◌}
use Rattle.lg_base.specs.Layout.{stop_address}
use Rattle.lg_base.specs.declared.fault.FaultKind.{FaultKind}
use Rattle.lg_base.specs.declared.flags.Flags.{Flags}
use Rattle.lg_host.specs.Host.{Host as Answer, Gives, Exits, Undefined}
use Rattle.lg_cpu.specs.Steps.{Effect, Goes, EndedWith, arrived, faults}
use Rattle.lg_cpu.specs.HostSteps.{returned}
use Rattle.lg_cpu.specs.States.{CpuState, arrives}
use Rattle.lg_cpu.specs.Laws.{OnFault, IsUnchanged}

-- the effect is no fault, or changes nothing
abbrev pub Quiet : CpuState → Effect CpuState → Type 0
Quiet q e = OnFault e.progress (IsUnchanged q e)

-- a run that arrives somewhere does not fault
pub quiet_arrived : (pc : ℕ) (P : Type 0) → OnFault (arrived pc) P
quiet_arrived pc P = by (pc == stop_address)
  where
    by : (b : Bool) → OnFault (if b then EndedWith 0 else Goes) P
    by true = tt
    by false = tt

pub quiet_arrives : (q : CpuState) (pc : ℕ) (registers : ℕ → ℕ) (flags : Flags) (bytes : ℕ → Option ℕ) (mark : ℕ) → Quiet q (arrives pc registers flags bytes mark)
quiet_arrives q pc registers flags bytes mark = quiet_arrived pc _

pub quiet_faults : (q : CpuState) (kind : FaultKind) → Quiet q (faults q kind)
quiet_faults q kind = (refl, refl)

pub quiet_choice : (q : CpuState) (b : Bool) (e f : Effect CpuState) → Quiet q e → Quiet q f → Quiet q (if b then e else f)
quiet_choice q true e f h k = h
quiet_choice q false e f h k = k

pub quiet_returned : (h : Answer) (back : ℕ) (registers : ℕ → ℕ → ℕ) (flags : Flags) (q : CpuState) → Quiet q (returned h back registers flags q)
quiet_returned (Gives value changes mark bytes) back registers flags q = quiet_arrived back _
quiet_returned (Exits status) back registers flags q = tt
quiet_returned Undefined back registers flags q = (refl, refl)
