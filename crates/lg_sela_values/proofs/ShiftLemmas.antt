-- Shifts by a number as bit fields.
use Rattle.std.proofs.Common.{◌≡◌, ℕ, zero, suc, ◌+◌, ◌-◌, ◌*◌, ◌/◌, ◌%◌, ◌^◌, ◌<◌, ◌≤◌, Bool, true, false, refl, sym, ap, ◌∙◌, arith}
use Rattle.std.specs.Prelude.{nat_lt, nat_le, if◌then◌else◌}
use Rattle.std.proofs.Math.Nat.{div-add-mod, add-mul, mul_comm, mul-div_cancel, mul-mod_left, mod-eq_of_lt}
use Rattle.std.proofs.lemmas.Nat.{div_below, div-mul-add, le-div, mod_below, mod-pow-add, pow-add}
use Rattle.lg_base.specs.Words.{complement, shifted_left, shifted_right, shifted_right_signed}
use Rattle.lg_a64.specs.declared.instruction.BitfieldOp.TheVariants.{Sbfm, Ubfm}
use Rattle.lg_cpu.specs.A64Operators.{bitfield_value, with_high_bits}

-- ---- powers
pow-positive : (n : ℕ) → 0 < 2 ^ n
pow-positive zero = omega arith
pow-positive (suc n) = let h = pow-positive n in omega (arith, h)

-- a word by its parts below and above a bit
parts : (v : ℕ) → v < 64 → 2 ^ (64 - v) * 2 ^ v ≡ 2 ^ 64
parts v h = sym (pow-add 2 (64 - v) v) ∙ ap (λ n. 2 ^ n) (let e : 64 - v + v ≡ 64 = omega (arith, h) in e)

halves : (v : ℕ) → v < 64 → 2 ^ (63 - v) * 2 ^ v ≡ 2 ^ 63
halves v h = sym (pow-add 2 (63 - v) v) ∙ ap (λ n. 2 ^ n) (let e : 63 - v + v ≡ 63 = omega (arith, h) in e)

twice-mod : (a b : ℕ) → a % 2 ^ 64 ≡ b → b % 2 ^ 64 ≡ a % 2 ^ 64
twice-mod a b e = omega (arith, e)

-- ---- to the left
left-moved : (x v : ℕ) → v < 64 → x % 2 ^ (64 - v) * 2 ^ v % 2 ^ 64 ≡ x * 2 ^ v % 2 ^ 64
left-moved x v h =
    let p = 2 ^ v in
    let whole : x * p % 2 ^ 64 ≡ x * p % 2 ^ (64 - v + v) = ap (λ n. x * p % 2 ^ n) (let e : 64 ≡ 64 - v + v = omega (arith, h) in e) in
    let split = mod-pow-add (x * p) (64 - v) v in
    let high : x * p / p ≡ x = mul-div_cancel x (pow-positive v) in
    let low : x * p % p ≡ 0 = mul-mod_left x p in
    let sum : x * p / p % 2 ^ (64 - v) * p + x * p % p ≡ x % 2 ^ (64 - v) * p + 0 = (λ i. high i % 2 ^ (64 - v) * p + low i) in
    let none : x % 2 ^ (64 - v) * p + 0 ≡ x % 2 ^ (64 - v) * p = omega arith in
    twice-mod (x * p) (x % 2 ^ (64 - v) * p) (whole ∙ split ∙ sum ∙ none)

not-above : (v : ℕ) → v < 64 → 0 < v → nat_le (64 - v) (63 - v) ≡ false
not-above v h some = grind (arith, h, some)

left-some : (x v : ℕ) → v < 64 → 0 < v → bitfield_value Ubfm x (64 - v) (63 - v) ≡ shifted_left x v
left-some x v h some =
    ap (λ (b : Bool). if b then shifted_right x (64 - v) % 2 ^ (63 - v - (64 - v) + 1) else shifted_left (x % 2 ^ (63 - v + 1)) (64 - (64 - v))) (not-above v h some)
    ∙ (λ i. shifted_left (x % 2 ^ count i) (back i))
    ∙ left-moved x v h
  where
    count : 63 - v + 1 ≡ 64 - v
    count = omega (arith, h)

    back : 64 - (64 - v) ≡ v
    back = omega (arith, h)

pub left-is : (x v : ℕ) → v < 64 → bitfield_value Ubfm x ((64 - v % 64) % 64) (63 - v % 64) ≡ shifted_left x v
left-is x zero h = let e : x / 2 ^ 0 % 2 ^ 64 ≡ x * 2 ^ 0 % 2 ^ 64 = omega arith in e
left-is x (suc n) h =
    let first : (64 - suc n % 64) % 64 ≡ 64 - suc n = omega (arith, h) in
    let last : 63 - suc n % 64 ≡ 63 - suc n = omega (arith, h) in
    (λ i. bitfield_value Ubfm x (first i) (last i)) ∙ left-some x (suc n) h (omega arith)

-- ---- to the right
below : (v : ℕ) → v < 64 → nat_le v 63 ≡ true
below v h = grind (arith, h)

high-part : (x v : ℕ) → x < 2 ^ 64 → v < 64 → x / 2 ^ v < 2 ^ (64 - v)
high-part x v small h = let e = parts v h in div_below x (2 ^ v) (2 ^ (64 - v)) (pow-positive v) (omega (arith, small, e))

high-mod : (x v : ℕ) → x < 2 ^ 64 → v < 64 → x / 2 ^ v % 2 ^ (63 - v + 1) ≡ x / 2 ^ v
high-mod x v small h =
    ap (λ n. x / 2 ^ v % 2 ^ n) (let e : 63 - v + 1 ≡ 64 - v = omega (arith, h) in e) ∙ mod-eq_of_lt (high-part x v small h)

pub right-is : (x v : ℕ) → x < 2 ^ 64 → v < 64 → bitfield_value Ubfm x (v % 64) 63 ≡ shifted_right x v
right-is x v small h =
    ap (λ k. bitfield_value Ubfm x k 63) (let e : v % 64 ≡ v = omega (arith, h) in e)
    ∙ ap (λ (b : Bool). if b then x / 2 ^ v % 2 ^ (63 - v + 1) else shifted_left (x % 2 ^ (63 + 1)) (64 - v)) (below v h)
    ∙ high-mod x v small h

less : (m n : ℕ) → m < n → nat_lt m n ≡ true
less m n h = grind (arith, h)

not-less : (m n : ℕ) → n ≤ m → nat_lt m n ≡ false
not-less m n h = grind (arith, h)

-- the sign goes into the high bits
sign-kept : (x v : ℕ) → x < 2 ^ 64 → v < 64 → x / 2 ^ v + (2 ^ 64 - 2 ^ (64 - v)) ≡ complement (complement x / 2 ^ v)
sign-kept x v small h =
    let p = 2 ^ v in
    let q = 2 ^ (64 - v) in
    let f = x / p in
    let r = x % p in
    let g = q - 1 - f in
    let less : f < q = high-part x v small h in
    let rest : r < p = mod_below x p (pow-positive v) in
    let is : f * p + r ≡ x = ap (λ z. z + r) (mul_comm f p) ∙ div-add-mod x p in
    let sum : q ≡ g + 1 + f = omega (arith, less) in
    let product : 2 ^ 64 ≡ g * p + 1 * p + f * p = sym (parts v h) ∙ ap (λ z. z * p) sum ∙ add-mul (g + 1) f p ∙ ap (λ z. z + f * p) (add-mul g 1 p) in
    let turned : complement x ≡ g * p + (p - 1 - r) = remains (g * p) (f * p) p r x product is rest in
    let quotient : complement x / p ≡ g = ap (λ z. z / p) turned ∙ div-mul-add g p (p - 1 - r) (omega (arith, rest)) in
    let most : q ≤ 2 ^ 64 = pow-most (64 - v) (omega arith) in
    ends g f q (complement x / p) quotient sum most
  where
    remains : (m n p r x : ℕ) → 2 ^ 64 ≡ m + 1 * p + n → n + r ≡ x → r < p → 2 ^ 64 - 1 - x ≡ m + (p - 1 - r)
    remains m n p r x product is rest = omega (arith, product, is, rest)

    at-least : (m n : ℕ) → 0 < m → m * n ≡ 2 ^ 64 → n ≤ 2 ^ 64
    at-least zero n some e = absurd (omega (arith, some))
    at-least (suc m) n some e = let q : suc m ≡ m + 1 = omega arith in let z : suc m * n ≡ m * n + 1 * n = ap (λ k. k * n) q ∙ add-mul m 1 n in omega (arith, e, z)

    pow-most : (n : ℕ) → n ≤ 64 → 2 ^ n ≤ 2 ^ 64
    pow-most n le = let e : 2 ^ (64 - n) * 2 ^ n ≡ 2 ^ 64 = sym (pow-add 2 (64 - n) n) ∙ ap (λ k. 2 ^ k) (let z : 64 - n + n ≡ 64 = omega (arith, le) in z) in at-least (2 ^ (64 - n)) (2 ^ n) (pow-positive (64 - n)) e

    ends : (g f q k : ℕ) → k ≡ g → q ≡ g + 1 + f → q ≤ 2 ^ 64 → f + (2 ^ 64 - q) ≡ 2 ^ 64 - 1 - k
    ends g f q k e sum most = omega (arith, e, sum, most)

pub right-signed-is : (x v : ℕ) → x < 2 ^ 64 → v < 64 → bitfield_value Sbfm x (v % 64) 63 ≡ shifted_right_signed x v
right-signed-is x v small h =
    ap (λ k. bitfield_value Sbfm x k 63) (let e : v % 64 ≡ v = omega (arith, h) in e)
    ∙ ap (λ (b : Bool). if b then with_high_bits (x / 2 ^ v % 2 ^ (63 - v + 1)) (63 - v + 1) else shifted_left (with_high_bits (x % 2 ^ (63 + 1)) (63 + 1)) (64 - v)) (below v h)
    ∙ (λ i. with_high_bits (high-mod x v small h i) (63 - v + 1))
    ∙ by (nat_lt x (2 ^ 63)) refl
  where
    last : 63 - v + 1 - 1 ≡ 63 - v
    last = omega (arith, h)

    inside : x / 2 ^ v < 2 ^ (63 - v) → nat_lt (x / 2 ^ v) (2 ^ (63 - v + 1 - 1)) ≡ true
    inside few = ap (λ n. nat_lt (x / 2 ^ v) (2 ^ n)) last ∙ less (x / 2 ^ v) (2 ^ (63 - v)) few

    outside : 2 ^ (63 - v) ≤ x / 2 ^ v → nat_lt (x / 2 ^ v) (2 ^ (63 - v + 1 - 1)) ≡ false
    outside many = ap (λ n. nat_lt (x / 2 ^ v) (2 ^ n)) last ∙ not-less (x / 2 ^ v) (2 ^ (63 - v)) many

    by : (b : Bool) → nat_lt x (2 ^ 63) ≡ b → with_high_bits (x / 2 ^ v) (63 - v + 1) ≡ (if b then x / 2 ^ v else complement (complement x / 2 ^ v))
    by true e =
        let lt : x < 2 ^ 63 = grind (arith, e) in
        let half = halves v h in
        let few : x / 2 ^ v < 2 ^ (63 - v) = div_below x (2 ^ v) (2 ^ (63 - v)) (pow-positive v) (omega (arith, lt, half)) in
        ap (λ (b : Bool). if b then x / 2 ^ v else x / 2 ^ v + (2 ^ 64 - 2 ^ (63 - v + 1))) (inside few)
    by false e =
        let ge : 2 ^ 63 ≤ x = grind (arith, e) in
        let half = halves v h in
        let many : 2 ^ (63 - v) ≤ x / 2 ^ v = le-div (2 ^ (63 - v)) x (2 ^ v) (pow-positive v) (omega (arith, ge, half)) in
        ap (λ (b : Bool). if b then x / 2 ^ v else x / 2 ^ v + (2 ^ 64 - 2 ^ (63 - v + 1))) (outside many)
        ∙ ap (λ n. x / 2 ^ v + (2 ^ 64 - 2 ^ n)) (let z : 63 - v + 1 ≡ 64 - v = omega (arith, h) in z)
        ∙ sign-kept x v small h
