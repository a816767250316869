-- The steps of the loops that fill tables.
use Rattle.std.proofs.Common.{◌≡◌, ℕ, ◌+◌, ◌<◌, ◌≤◌, Bool, ◌||◌, List, [], ◌∷◌, ◌++◌, Some, sym, ap, ◌∙◌, length, get_or, take, drop, ⊎_elim, arith}
use Rattle.std.specs.Prelude.{slice_get}
use Rattle.std.specs.List.{list_any}
use Rattle.std.proofs.lemmas.Bool.{cases_lt}
use Rattle.std.proofs.lemmas.List.{take_more, take_at, get_or_past}
use Rattle.std.proofs.lemmas.List.Folds.{list_any-append}
use Rattle.std.proofs.lemmas.Grind.{common_steps}
use Rattle.std.proofs.lemmas.Option.{slice_get_within, get_or_from_slice_get}
use Rattle.std.proofs.Math.Bool.{or-false}

-- a list that is one longer
pub count_push : {A : Type 0} (xs ys : List A) (x : A) (i : ℕ) → ys ≡ xs ++ x ∷ [] → length xs ≡ i → length ys ≡ i + 1
count_push xs ys x i e count = grind (arith, common_steps)

-- one entry more
pub table_push : {A : Type 0} (f : ℕ → A) (xs ys : List A) (x d : A) (i : ℕ) → ys ≡ xs ++ x ∷ [] → length xs ≡ i → x ≡ f i → ((k : ℕ) → k < i → get_or xs k d ≡ f k) → (k : ℕ) → k < i + 1 → get_or ys k d ≡ f k
table_push f xs ys x d i e count here before k h = grind (arith, common_steps, before k)

-- a table that has all entries, where those after it are the default
pub table_all : {A : Type 0} (f : ℕ → A) (xs : List A) (d : A) (i n : ℕ) → length xs ≡ i → n ≤ i → ((k : ℕ) → k < i → get_or xs k d ≡ f k) → ((k : ℕ) → n ≤ k → f k ≡ d) → (k : ℕ) → get_or xs k d ≡ f k
table_all f xs d i n count all before past k = ⊎_elim (λ (h : k < i). before k h) (λ (h : i ≤ k). get_or_past xs k d (omega arith) ∙ sym (past k (omega arith))) (cases_lt k i)

-- a part that is written back whole
pub put_back : {A : Type 0} (new old : List A) (n : ℕ) → length new ≡ length old → n ≡ length old → take n (new ++ drop (length new) old) ≡ new
put_back new old n same count = take_at new (drop (length new) old) n (omega arith)

-- one element more is tested
pub any_on : {A : Type 0} (test : A → Bool) (xs : List A) (i : ℕ) (x : A) → slice_get xs i ≡ Some x → list_any test (take (i + 1) xs) ≡ (list_any test (take i xs) || test x)
any_on test xs i x e =
    ap (list_any test) (take_more xs i x (slice_get_within xs i x e) ∙ ap (λ y. take i xs ++ y ∷ []) (get_or_from_slice_get xs i x x e))
    ∙ list_any-append test (take i xs) (x ∷ [])
    ∙ ap (λ b. list_any test (take i xs) || b) (or-false (test x))
