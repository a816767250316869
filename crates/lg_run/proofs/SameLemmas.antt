-- Constructors are distinguished, and equal ones hold the same.
use Rattle.std.proofs.Common.{◌≡◌, ℕ, Some, None}
use Rattle.std.specs.Prelude.{Result, Ok}
use Rattle.lg_base.specs.Runs.{Ended}
use Rattle.lg_cpu.specs.Steps.{Progress, Goes, EndedWith, Faulted, status_of}
use Rattle.lg_run.specs.declared.answer.Answer.TheVariants as answer

pub none_some : {A : Type 0} {a : A} → None ≡ Some a → ⊥
none_some e = cc

pub some_same : {A : Type 0} {a b : A} → Some a ≡ Some b → a ≡ b
some_same e = cc

pub ok_same : {A E : Type 0} {a b : A} → ◌≡◌ {A = Result A E} (Ok a) (Ok b) → a ≡ b
ok_same e = cc

pub end_same : {s t : ℕ} → Ended s ≡ Ended t → s ≡ t
end_same e = cc

pub answer_same : {s t : ℕ} → answer.Ended s ≡ answer.Ended t → s ≡ t
answer_same e = cc

-- a run that has ended as a status says
pub ends_with : (p : Progress) (s : ℕ) → status_of p ≡ Ended s → p ≡ EndedWith s
ends_with Goes s e = cc
ends_with other s e = cc
