-- Bytes by place, tests of them, and lengths.
use Rattle.std.proofs.Common.{◌≡◌, ◌≢◌, ℕ, ◌+◌, ◌<◌, Bool, true, false, cond, eqb, List, length, get_or, drop, slice_index, refl, ap, ◌∙◌, arith, Option, Some, None, option_map}
use Rattle.std.proofs.lemmas.List.{get_or-drop, get_or_past}
use Rattle.std.proofs.lemmas.Option.{none-some, same_Some}
use Rattle.std.proofs.lemmas.Bool.Decides.{nat_tests}
use Rattle.lg_lex.specs.Bytes.{further}

-- a byte that is not 0 lies within the list
pub within : (bytes : List ℕ) (k : ℕ) → 0 < slice_index bytes k → k < length bytes
within bytes k h = grind (arith, get_or_past)

-- the first byte from a place on
pub first_of_drop : (bytes : List ℕ) (at : ℕ) → get_or (drop at bytes) 0 0 ≡ get_or bytes at 0
first_of_drop bytes at = get_or-drop at bytes 0 0 ∙ ap (λ k. get_or bytes k 0) (omega arith)

-- what a test of two numbers answers
pub eqb_same : (a b : ℕ) → a ≡ b → eqb a b ≡ true
eqb_same a b h = grind (arith, nat_tests)

pub eqb_true : (a b : ℕ) → eqb a b ≡ true → a ≡ b
eqb_true a b h = grind (arith, nat_tests)

pub eqb_other : (a b : ℕ) → a ≢ b → eqb a b ≡ false
eqb_other a b h = grind (arith, nat_tests)

-- a length, lengthened twice
pub further-further : (a b : ℕ) (o : Option ℕ) → further a (further b o) ≡ further (a + b) o
further-further a b None = refl
further-further a b (Some n) = ap Some (omega arith)

-- what a value in a mapped option, and a choice, says of what it came from
pub option_map_some : {A B P : Type 0} (f : A → B) (o : Option A) (y : B) → option_map f o ≡ Some y → ((x : A) → o ≡ Some x → f x ≡ y → P) → P
option_map_some f None y h more = absurd (none-some y h)
option_map_some f (Some x) y h more = more x refl (same_Some (f x) y h)

pub cond_case : {A P : Type 0} (b : Bool) (x y z : A) → cond b x y ≡ z → (b ≡ true → x ≡ z → P) → (b ≡ false → y ≡ z → P) → P
cond_case true x y z h first second = first refl h
cond_case false x y z h first second = second refl h
