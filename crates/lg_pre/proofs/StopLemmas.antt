-- Calls that stop, and calls that go on.
use Rattle.std.proofs.Common.{◌≡◌, sym, subst, refl, ℕ, IsErrAnd, Result, Ok, Err}
use Rattle.lg_base.specs.Refusals.{◌>>=◌}
use Rattle.lg_macro.specs.Macros.{CountsAs, StepsAs, GivesAs, Reads}
use Rattle.lg_base.specs.declared.refusal.Refusal.{Refusal}
use Rattle.lg_base.specs.declared.refusal.Stop.{Stop}
use Rattle.lg_base.specs.declared.refusal.Stop.TheVariants.{Refused, OutOfMemory}
use Rattle.lg_replacement.proofs.ExpansionLemmas.{Blames}

bound : {A B : Type 0} (read : Result A Refusal) (f : A → Result B Refusal) (fault : Refusal) → read ≡ Err fault → (read >>= f) ≡ Err fault
bound read f fault e = rw e refl

-- what a first call blames is what it and a further one blame
pub counts_bound : {A B : Type 0} (stop : Stop) (new : A) (read : Result A Refusal) (f : A → Result B Refusal) → CountsAs (Err stop) new read → Blames stop (read >>= f)
counts_bound OutOfMemory new read f is = tt
counts_bound (Refused fault) new read f is = bound read f fault is

pub gives_bound : {R A B : Type 0} (stop : Stop) (new : A) (read : Result (R × A) Refusal) (f : R × A → Result B Refusal) → GivesAs {R = R} (Err stop) new read → Blames stop (read >>= f)
gives_bound OutOfMemory new read f is = tt
gives_bound (Refused fault) new read f is = bound read f fault is

pub reads_bound : {A B : Type 0} (stop : Stop) (read : Result A Refusal) (f : A → Result B Refusal) → Reads (Err stop) read → Blames stop (read >>= f)
reads_bound OutOfMemory read f is = tt
reads_bound (Refused fault) read f is = bound read f fault is

-- a result that a stop was passed on to
pub counts_from : {A : Type 0} (r : Result (Unit {0}) Stop) (stop : Stop) (new : A) (whole : Result A Refusal) → IsErrAnd r (λ e. e ≡ stop) → Blames stop whole → CountsAs r new whole
counts_from (Ok u) stop new whole is blames = absurd is
counts_from (Err OutOfMemory) stop new whole is blames = tt
counts_from {A} (Err (Refused fault)) stop new whole is blames = subst (λ (e : Stop). Blames {A = A} e whole) (sym is) blames

pub gives_from : {R A : Type 0} (r : Result R Stop) (stop : Stop) (new : A) (whole : Result (R × A) Refusal) → IsErrAnd r (λ e. e ≡ stop) → Blames stop whole → GivesAs r new whole
gives_from (Ok u) stop new whole is blames = absurd is
gives_from (Err OutOfMemory) stop new whole is blames = tt
gives_from {R} {A} (Err (Refused fault)) stop new whole is blames = subst (λ (e : Stop). Blames {A = R × A} e whole) (sym is) blames

pub steps_from : {A : Type 0} (r : Result ℕ Stop) (stop : Stop) (new : A) (whole : Result (ℕ × A) Refusal) → IsErrAnd r (λ e. e ≡ stop) → Blames stop whole → StepsAs r new whole
steps_from (Ok u) stop new whole is blames = absurd is
steps_from (Err OutOfMemory) stop new whole is blames = tt
steps_from {A} (Err (Refused fault)) stop new whole is blames = subst (λ (e : Stop). Blames {A = ℕ × A} e whole) (sym is) blames

pub reads_from : {A : Type 0} (r : Result A Stop) (stop : Stop) (whole : Result A Refusal) → IsErrAnd r (λ e. e ≡ stop) → Blames stop whole → Reads r whole
reads_from (Ok u) stop whole is blames = absurd is
reads_from (Err OutOfMemory) stop whole is blames = tt
reads_from {A} (Err (Refused fault)) stop whole is blames = subst (λ (e : Stop). Blames {A = A} e whole) (sym is) blames

-- a call whose result is put in its place
pub counts_put : {A B : Type 0} (r : Result (Unit {0}) Stop) (new : A) (read : Result A Refusal) (f : A → B) → CountsAs r new read → CountsAs r (f new) (read >>= (λ x. Ok (f x)))
counts_put (Ok u) new read f is = rw is refl
counts_put (Err OutOfMemory) new read f is = tt
counts_put (Err (Refused fault)) new read f is = rw is refl
