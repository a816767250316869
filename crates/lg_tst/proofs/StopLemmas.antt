-- What a call answers where a call in it stops.
use Rattle.std.proofs.Common.{◌≡◌, Result, Ok, Err, sym, subst, IsErrAnd}
use Rattle.lg_base.specs.declared.refusal.Refusal.{Refusal}
use Rattle.lg_base.specs.declared.refusal.Stop.{Stop}
use Rattle.lg_base.specs.declared.refusal.Stop.TheVariants.{Refused, OutOfMemory}
use Rattle.lg_tst.specs.Answers.{GivesWith, Gives, Reads}
use Rattle.lg_tst.specs.Units.{State}

-- a call stops where a call in it does
pub stops : {A : Type 0} (r : Result (Unit {0}) Stop) (stop : Stop) (new : State) (read : Result A Refusal) (whole : Result State Refusal) → IsErrAnd r (λ e. e ≡ stop) → Reads {A = A} (Err stop) read → ((refusal : Refusal) → read ≡ Err refusal → whole ≡ Err refusal) → Gives r new whole
stops (Ok u) stop new read whole is gives on = absurd is
stops (Err OutOfMemory) stop new read whole is gives on = tt
stops {A} (Err (Refused refusal)) stop new read whole is gives on =
    on refusal (subst (λ (e : Stop). Reads {A = A} (Err e) read) (sym is) gives)

with_reads : {A : Type 0} (stop : Stop) (left next : State) (read : Result A Refusal) → GivesWith (Err stop) left read next → Reads {A = A} (Err stop) read
with_reads OutOfMemory left next read gives = tt
with_reads (Refused refusal) left next read gives = gives

pub stops_with : {A : Type 0} (r : Result (Unit {0}) Stop) (stop : Stop) (new left next : State) (read : Result A Refusal) (whole : Result State Refusal) → IsErrAnd r (λ e. e ≡ stop) → GivesWith (Err stop) left read next → ((refusal : Refusal) → read ≡ Err refusal → whole ≡ Err refusal) → Gives r new whole
stops_with r stop new left next read whole is gives on = stops r stop new read whole is (with_reads stop left next read gives) on

gives_reads : (stop : Stop) (left : State) (read : Result State Refusal) → Gives (Err stop) left read → Reads {A = State} (Err stop) read
gives_reads OutOfMemory left read gives = tt
gives_reads (Refused refusal) left read gives = gives

pub stops_state : (r : Result (Unit {0}) Stop) (stop : Stop) (new left : State) (read whole : Result State Refusal) → IsErrAnd r (λ e. e ≡ stop) → Gives (Err stop) left read → ((refusal : Refusal) → read ≡ Err refusal → whole ≡ Err refusal) → Gives r new whole
stops_state r stop new left read whole is gives on = stops r stop new read whole is (gives_reads stop left read gives) on
