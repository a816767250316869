-- The table of the values of hexadecimal digits is that of their definition.
use Rattle.std.proofs.Common.{◌≡◌, ℕ, zero, suc, ◌+◌, ◌^◌, ◌<◌, ◌≤◌, nat_lt, Bool, true, ◌&&◌, ◌==◌, List, [], ◌∷◌, length, get_or, Option, Some, None, refl, sym, ap, subst, arith}
use Rattle.std.proofs.lemmas.Bool.{and_parts}
use Rattle.std.proofs.lemmas.Bool.Decides.{nat_tests}
use Rattle.lg_back.specs.Digits.{digit_value}
use Rattle.lg_back.specs.declared.digits.TheConstants.{VALUES}

-- what a number of the table says: below 16 it is the value, and it is 2^32 where there is none
abbrev fits : ℕ → Option ℕ → Bool
fits x None = x == 4294967296
fits x (Some v) = nat_lt x 16 && (x == v)

-- a table from a code on
abbrev agrees : ℕ → List ℕ → Bool
agrees n [] = true
agrees n (x ∷ xs) = fits x (digit_value n) && agrees (n + 1) xs

agrees_at : (n : ℕ) (xs : List ℕ) (k : ℕ) → agrees n xs ≡ true → k < length xs → fits (get_or xs k 0) (digit_value (n + k)) ≡ true
agrees_at n [] k e h = absurd (omega arith)
agrees_at n (x ∷ xs) zero e h =
    let parts = and_parts (fits x (digit_value n)) (agrees (n + 1) xs) e in
    let at : n ≡ n + 0 = omega arith in
    subst (λ m. fits x (digit_value m) ≡ true) at parts.0
agrees_at n (x ∷ xs) (suc k) e h =
    let parts = and_parts (fits x (digit_value n)) (agrees (n + 1) xs) e in
    let at : (n + 1) + k ≡ n + suc k = omega arith in
    subst (λ m. fits (get_or xs k 0) (digit_value m) ≡ true) at (agrees_at (n + 1) xs k parts.1 (omega arith))

value_is : (b : ℕ) → b < 256 → fits (get_or VALUES b 0) (digit_value b) ≡ true
value_is b h = let at : 0 + b ≡ b = omega arith in subst (λ m. fits (get_or VALUES b 0) (digit_value m) ≡ true) at (agrees_at 0 VALUES b refl h)

same : (a b : ℕ) → (a == b) ≡ true → a ≡ b
same a b e = grind (arith, nat_tests)

low : (x : ℕ) → nat_lt x 16 ≡ true → x < 16
low x e = grind (arith, nat_tests)

fits_some : (x : ℕ) (o : Option ℕ) → fits x o ≡ true → x < 16 → o ≡ Some x
fits_some x None e h = absurd (let far = same x 4294967296 e in omega (arith, h, far))
fits_some x (Some v) e h = ap Some (sym (same x v (and_parts (nat_lt x 16) (x == v) e).1))

fits_none : (x : ℕ) (o : Option ℕ) → fits x o ≡ true → 16 ≤ x → o ≡ None
fits_none x None e h = refl
fits_none x (Some v) e h = absurd (let lt = low x (and_parts (nat_lt x 16) (x == v) e).0 in omega (arith, h, lt))

fits_far : (x : ℕ) (o : Option ℕ) → fits x o ≡ true → 16 ≤ x → x ≡ 2 ^ 32
fits_far x None e h = same x 4294967296 e
fits_far x (Some v) e h = absurd (let lt = low x (and_parts (nat_lt x 16) (x == v) e).0 in omega (arith, h, lt))

fits_most : (x : ℕ) (o : Option ℕ) → fits x o ≡ true → x ≤ 2 ^ 32
fits_most x None e = let is = same x 4294967296 e in omega (arith, is)
fits_most x (Some v) e = let lt = low x (and_parts (nat_lt x 16) (x == v) e).0 in omega (arith, lt)

pub value_some : (b : ℕ) → b < 256 → get_or VALUES b 0 < 16 → digit_value b ≡ Some (get_or VALUES b 0)
value_some b h = fits_some (get_or VALUES b 0) (digit_value b) (value_is b h)

pub value_none : (b : ℕ) → b < 256 → 16 ≤ get_or VALUES b 0 → digit_value b ≡ None
value_none b h = fits_none (get_or VALUES b 0) (digit_value b) (value_is b h)

pub value_far : (b : ℕ) → b < 256 → 16 ≤ get_or VALUES b 0 → get_or VALUES b 0 ≡ 2 ^ 32
value_far b h = fits_far (get_or VALUES b 0) (digit_value b) (value_is b h)

pub value_most : (b : ℕ) → b < 256 → get_or VALUES b 0 ≤ 2 ^ 32
value_most b h = fits_most (get_or VALUES b 0) (digit_value b) (value_is b h)
