-- Signed numbers in fields.
use Rattle.std.proofs.Common.{◌≡◌, ℕ, suc, ◌+◌, ◌-◌, ◌<◌, ◌≤◌, ℤ, pos, negsuc, ◌+ℤ◌, ◌≤ℤ◌, refl, arith, nat_lt, Bool, true, false}
use Rattle.std.proofs.lemmas.Int.{ints}
use Rattle.lg_base.specs.Fields.{signed, bits_of}

-- the bits of the number that is in a field are those in the field
pub bits_of-signed : (half bits : ℕ) → bits < half + half → bits_of half (signed half bits) ≡ bits
bits_of-signed half bits h = cases (nat_lt bits half) refl
  where
    cases : (b : Bool) → nat_lt bits half ≡ b → bits_of half (signed half bits) ≡ bits
    cases true e = rw e refl
    cases false e = rw e (omega arith)

-- and the number that is in the field of a number's bits is the number
pub signed-bits_of : (half : ℕ) (z : ℤ) → pos 0 ≤ℤ (z +ℤ pos half) → (z +ℤ pos 1) ≤ℤ pos half → signed half (bits_of half z) ≡ z
signed-bits_of half (pos k) low high = let lt : nat_lt k half ≡ true = grind (arith, ints, low, high) in rw lt refl
signed-bits_of half (negsuc k) low high =
    let le : suc k ≤ half = omega (arith, ints) in
    let ge : nat_lt (half + half - suc k) half ≡ false = grind (arith, le) in
    let back : half + half - suc (half + half - suc k) ≡ k = omega arith in
    rw (ge, back) refl
