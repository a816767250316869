-- Searches among rows, and bits.
use Rattle.std.proofs.Common.{◌≡◌, ℕ, ◌<◌, List, [], ◌∷◌, Option, Some, None, Bool, true, false, cond, refl, arith}
use Rattle.std.specs.Prelude.{IfSome, option_map, find, ◌==◌}
use Rattle.std.proofs.lemmas.Bool.Decides.{nat_tests}
use Rattle.lg_a64.specs.Spelling.{bit}

-- the bit that a field of one bit holds
pub bit-is_one : (n : ℕ) → n < 2 → bit (n == 1) ≡ n
bit-is_one n h = cases (n == 1) refl
  where
    cases : (b : Bool) → (n == 1) ≡ b → bit b ≡ n
    cases true e = grind (arith, nat_tests)
    cases false e = grind (arith, nat_tests)

pub is_one-bit : (b : Bool) → (bit b == 1) ≡ b
is_one-bit true = refl
is_one-bit false = refl

first_or : {A I : Type 0} (P : I → Type 0) (f : A → I) (x : A) (rest : Option A) (test : Bool) → (test ≡ true → P (f x)) → IfSome (option_map f rest) P → IfSome (option_map f (cond test (Some x) rest)) P
first_or P f x rest true here later = here refl
first_or P f x rest false here later = later

-- what holds of each member that passes the test holds of the one that is found
pub found : {A I : Type 0} (P : I → Type 0) (test : A → Bool) (f : A → I) (xs : List A) → ((x : A) → test x ≡ true → P (f x)) → IfSome (option_map f (find test xs)) P
found P test f [] ok = tt
found P test f (x ∷ xs) ok = first_or P f x (find test xs) (test x) (ok x) (found P test f xs ok)

-- what holds of the answer where a test passes holds of it everywhere
pub where_true : {I : Type 0} (P : I → Type 0) (test : Bool) (answer : Option I) → (test ≡ true → IfSome answer P) → IfSome (cond test answer None) P
where_true P true answer ok = ok refl
where_true P false answer ok = tt
