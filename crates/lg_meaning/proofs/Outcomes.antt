-- What holds of the state to which a step goes.
use Rattle.std.proofs.Common.{◌≡◌, ℕ, Bool, true, false, List, Option, Some, None, refl, subst}
use Rattle.lg_meaning.specs.States.{State}
use Rattle.lg_meaning.specs.Steps.{Outcome, Goes, need, when}

abbrev pub OnGoes : (State → Type 0) → Outcome → Type 0
OnGoes P (Goes t bytes) = P t
OnGoes P _ = Unit {0}

pub need_on : {A : Type 0} (P : State → Type 0) (o : Option A) (f : A → Outcome) → ((v : A) → o ≡ Some v → OnGoes P (f v)) → OnGoes P (need o f)
need_on P None f h = tt
need_on P (Some v) f h = h v refl

pub when_on : (P : State → Type 0) (c : Bool) (o : Outcome) → (c ≡ true → OnGoes P o) → OnGoes P (when c o)
when_on P true o h = h refl
when_on P false o h = tt

pub on_weaker : (P Q : State → Type 0) → ((t : State) → P t → Q t) → (o : Outcome) → OnGoes P o → OnGoes Q o
on_weaker P Q f (Goes t bytes) h = f t h
on_weaker P Q f _ h = tt

pub on_result : (P : State → Type 0) (o : Outcome) (t : State) (bytes : List ℕ) → OnGoes P o → o ≡ Goes t bytes → P t
on_result P o t bytes h e = subst (OnGoes P) e h
