-- What calls answer that write no output, and where the count of faults stays.
use Rattle.std.proofs.Common.{ℕ, List, Option, sym, subst, refl}
use Rattle.std.specs.Io.KnownBytes.{Appends}
use Rattle.std.proofs.KnownBytes.{Appends-nil}
use Rattle.lg_host.specs.Host.{Mem, Host, Gives, Exits, Undefined, Out, KeepsCountAt, HostSays, MemSays}
use Rattle.lg_host.specs.declared.host_end.HostEnd.{HostEnd}
use Rattle.lg_host.specs.declared.host_end.HostEnd.TheVariants as end

pub HostSays-memory : (h : Host) (m m' : Mem) (o : Option (List ℕ)) (n : ℕ) (e : HostEnd) → MemSays h m m' e → HostSays h m m' record { old = o; new = o; before = n; now = n } e
HostSays-memory (Gives v d k bytes) m m' o n (end.Value x) h = (h.0, h.1, subst (Appends o o) (sym h.2) (Appends-nil o), refl)
HostSays-memory (Exits s) m m' o n (end.Exit x) h = (h.0, h.1, Appends-nil o, refl)
HostSays-memory Undefined m m' o n end.Undefined h = (h, Appends-nil o, refl)
HostSays-memory _ m m' o n _ h = absurd h

-- the count of faults stays, but where a write failed
pub HostSays-count : (h : Host) (m m' : Mem) (o : Out) (e : HostEnd) → HostSays h m m' o e → KeepsCountAt e o
HostSays-count (Gives v d k bytes) m m' o (end.Value x) h = h.3
HostSays-count (Gives v d k bytes) m m' o end.WriteFault h = tt
HostSays-count (Exits s) m m' o (end.Exit x) h = h.3
HostSays-count Undefined m m' o end.Undefined h = h.2
HostSays-count _ m m' o _ h = absurd h
