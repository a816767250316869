-- What holds of the first elements of a list, and of one more.
use Rattle.std.proofs.Common.{◌≡◌, ℕ, ◌+◌, ◌<◌, ◌≤◌, List, get_or, Some, sym, ap, ◌∙◌, subst, ⊎_elim, arith}
use Rattle.std.specs.Prelude.{slice_get}
use Rattle.std.proofs.lemmas.Bool.{cases_lt}
use Rattle.std.proofs.lemmas.Option.{get_or_from_slice_get}

pub All-next : {X : Type 0} (P : X → Type 0) (xs : List X) (n : ℕ) (x : X) → ((k : ℕ) (d : X) → k < n → P (get_or xs k d)) → Some x ≡ slice_get xs n → P x → (k : ℕ) (d : X) → k < n + 1 → P (get_or xs k d)
All-next P xs n x before e p k d lt =
    ⊎_elim (λ (h : k < n). before k d h) (λ (h : n ≤ k). let same : k ≡ n = omega (arith, h, lt) in subst P (sym (get_or_from_slice_get xs k x d (ap (slice_get xs) same ∙ sym e))) p) (cases_lt k n)
