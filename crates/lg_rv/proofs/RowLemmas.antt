-- Rows, and searches among them.
use Rattle.std.proofs.Common.{◌≡◌, ℕ, ◌<◌, List, [], ◌∷◌, Option, Some, Bool, true, false, cond, refl, arith}
use Rattle.std.specs.Prelude.{IfSome, option_map, find}
use Rattle.std.proofs.lemmas.Bool.Decides.{nat_tests}
use Rattle.lg_rv.specs.Rows.{Row}
use Rattle.lg_rv.specs.Reading.{is_row}

-- the row fixes these
pub record IsRow (opcode funct3 high : ℕ) (r : Row) : Type 0 where
  pub same_opcode : opcode ≡ r.fixed.opcode
  pub same_funct3 : funct3 ≡ r.fixed.funct3
  pub same_high : high ≡ r.fixed.high

pub row_is : (opcode funct3 high : ℕ) (r : Row) → is_row opcode funct3 high r ≡ true → IsRow opcode funct3 high r
row_is opcode funct3 high r e = record { same_opcode = grind (arith, nat_tests); same_funct3 = grind (arith, nat_tests); same_high = grind (arith, nat_tests) }

-- what a row fixes fits its fields, the highest of which has this many values
pub record Fits (r : Row) (size : ℕ) : Type 0 where
  pub opcode : r.fixed.opcode < 128
  pub funct3 : r.fixed.funct3 < 8
  pub high : r.fixed.high < size

first_or : {A I : Type 0} (P : I → Type 0) (f : A → I) (x : A) (rest : Option A) (test : Bool) → (test ≡ true → P (f x)) → IfSome (option_map f rest) P → IfSome (option_map f (cond test (Some x) rest)) P
first_or P f x rest true here later = here refl
first_or P f x rest false here later = later

-- what holds of each member that passes the test holds of the one that is found
pub found : {A I : Type 0} (P : I → Type 0) (test : A → Bool) (f : A → I) (xs : List A) → ((x : A) → test x ≡ true → P (f x)) → IfSome (option_map f (find test xs)) P
found P test f [] ok = tt
found P test f (x ∷ xs) ok = first_or P f x (find test xs) (test x) (ok x) (found P test f xs ok)
