-- Words that no label has yet.
use Rattle.std.proofs.Common.{◌≡◌, ℕ, ◌+◌, Bool, true, false, ◌||◌, cond, not, List, [], ◌∷◌, Result, Ok, Err, refl, length, arith}
use Rattle.std.specs.Prelude.{IfOk, OnOk}
use Rattle.std.specs.List.{list_any, position_or_len}
use Rattle.lg_node.specs.Nodes.{LabelledNodes, mentioned}
use Rattle.lg_node.specs.Unused.{is_mentioned, with_label}

pub if-ok : {A E : Type 0} (r : Result A E) (P Q : A → Type 0) → ((a : A) → P a → Q a) → IfOk r P → IfOk r Q
if-ok (Ok a) P Q f p = f a p
if-ok (Err e) P Q f p = tt

pub on-ok : {A E : Type 0} (r : Result A E) (P Q : Type 0) → (P → Q) → OnOk r P → OnOk r Q
on-ok (Ok a) P Q f p = f p
on-ok (Err e) P Q f p = tt

-- a word that is not there has the next number, and is a new label
pub next-number : {A : Type 0} (test : A → Bool) (xs : List A) → list_any test xs ≡ false → position_or_len test xs ≡ length xs
next-number test [] e = refl
next-number test (x ∷ xs) e = by (test x) e (next-number test xs)
  where
    by : (b : Bool) → (b || list_any test xs) ≡ false → (list_any test xs ≡ false → position_or_len test xs ≡ length xs) → cond (not b) (1 + position_or_len test xs) 0 ≡ length (x ∷ xs)
    by true e rest = cc
    by false e rest = omega (arith, rest e)

pub new-label : (l : LabelledNodes) (word : List ℕ) → is_mentioned l.words word ≡ false → mentioned l word ≡ with_label l word
new-label l word e = rw e refl
