-- The number of some bytes, joined from the highest one on.
use Rattle.std.proofs.Common.{◌≡◌, ℕ, zero, suc, ◌+◌, ◌-◌, ◌*◌, ◌/◌, ◌%◌, ◌^◌, ◌<◌, ◌≤◌, Bool, true, false, refl, sym, ap, ◌∙◌, arith}
use Rattle.std.specs.Prelude.{nat_lt, if◌then◌else◌}
use Rattle.std.proofs.Math.Nat.{div-div-eq-div-mul, pow-suc}
use Rattle.lg_base.specs.Wide.{sign_part_of, byte_of}
use Rattle.lg_base.specs.Words.{add_words, shifted_left}
use Rattle.lg_op.specs.declared.op.ValueType.{ValueType}
use Rattle.lg_op.specs.declared.op.ValueType.TheVariants as value_type
use Rattle.lg_op.specs.Operators.{width, extended_by_type}

-- a word, and after it the k lowest bytes of v, from the highest of them on
abbrev pub joined : ℕ → ℕ → ℕ → ℕ
joined x v zero = x
joined x v (suc k) = joined (add_words (shifted_left x 8) (byte_of v k)) v k

-- ---- from the bytes above them
step : (m : ℕ) → m < 2 ^ 64 → add_words (shifted_left (m / 256) 8) (m % 256) ≡ m
step m h = omega (arith, h)

above : (v k : ℕ) → v / 256 ^ suc k ≡ v / 256 ^ k / 256
above v k = ap (λ n. v / n) (pow-suc 256 k) ∙ sym (div-div-eq-div-mul v (256 ^ k) 256)

quotient-less : (v n : ℕ) → v / n ≤ v
quotient-less v n = grind arith

joined-all : (k v : ℕ) → v < 2 ^ 64 → joined (v / 256 ^ k) v k ≡ v
joined-all zero v h = omega arith
joined-all (suc k) v h =
    let less = quotient-less v (256 ^ k) in
    ap (λ x. joined (add_words (shifted_left x 8) (byte_of v k)) v k) (above v k) ∙ ap (λ x. joined x v k) (step (v / 256 ^ k) (omega (arith, less, h))) ∙ joined-all k v h

-- ---- from bytes whose sign is extended
negative : (m g : ℕ) → m < 256 * g → 256 * g ≤ 2 ^ 64 → add_words (shifted_left (m / 256 + (2 ^ 64 - g)) 8) (m % 256) ≡ m + (2 ^ 64 - 256 * g)
negative m g h most = omega (arith, h, most)

is-less : (m n : ℕ) → m < n → nat_lt m n ≡ true
is-less m n h = grind (arith, h)

not-less : (m n : ℕ) → n ≤ m → nat_lt m n ≡ false
not-less m n h = grind (arith, h)

less-where : (m n : ℕ) → nat_lt m n ≡ true → m < n
less-where m n h = grind (arith, h)

more-where : (m n : ℕ) → nat_lt m n ≡ false → n ≤ m
more-where m n h = grind (arith, h)

short : (v : ℕ) → v < 256 ^ 2 → joined (sign_part_of (v / 256 ^ 1 % 256) 1) v 1 ≡ sign_part_of v 2
short v h = by (nat_lt (2 * (v / 256 % 256 % 256)) 256) refl
  where
    by : (b : Bool) → nat_lt (2 * (v / 256 % 256 % 256)) 256 ≡ b
        → joined (if b then v / 256 % 256 % 256 else v / 256 % 256 % 256 + (2 ^ 64 - 256)) v 1 ≡ (if nat_lt (2 * (v % 65536)) 65536 then v % 65536 else v % 65536 + (2 ^ 64 - 65536))
    by true e =
        let lt = less-where (2 * (v / 256 % 256 % 256)) 256 e in
        ap (λ x. joined x v 1) (let z : v / 256 % 256 % 256 ≡ v / 256 ^ 1 = omega (arith, h) in z) ∙ joined-all 1 v (omega (arith, h))
        ∙ (let z : v ≡ v % 65536 = omega (arith, h) in z)
        ∙ ap (λ c. if c then v % 65536 else v % 65536 + (2 ^ 64 - 65536)) (sym (is-less (2 * (v % 65536)) 65536 (omega (arith, h, lt))))
    by false e =
        let le = more-where (2 * (v / 256 % 256 % 256)) 256 e in
        ap (λ x. joined (x + (2 ^ 64 - 256)) v 1) (let z : v / 256 % 256 % 256 ≡ v / 256 = omega (arith, h) in z)
        ∙ (let z : add_words (shifted_left (v / 256 + (2 ^ 64 - 256)) 8) (v / 1 % 256) ≡ v % 65536 + (2 ^ 64 - 65536) = omega (arith, h) in z)
        ∙ ap (λ c. if c then v % 65536 else v % 65536 + (2 ^ 64 - 65536)) (sym (not-less (2 * (v % 65536)) 65536 (omega (arith, h, le))))

int : (v : ℕ) → v < 256 ^ 4 → joined (sign_part_of (v / 256 ^ 3 % 256) 1) v 3 ≡ sign_part_of v 4
int v h = by (nat_lt (2 * (v / 256 ^ 3 % 256 % 256)) 256) refl
  where
    by : (b : Bool) → nat_lt (2 * (v / 256 ^ 3 % 256 % 256)) 256 ≡ b
        → joined (if b then v / 256 ^ 3 % 256 % 256 else v / 256 ^ 3 % 256 % 256 + (2 ^ 64 - 256)) v 3 ≡ (if nat_lt (2 * (v % 2 ^ 32)) (2 ^ 32) then v % 2 ^ 32 else v % 2 ^ 32 + (2 ^ 64 - 2 ^ 32))
    by true e =
        let lt = less-where (2 * (v / 256 ^ 3 % 256 % 256)) 256 e in
        ap (λ x. joined x v 3) (let z : v / 256 ^ 3 % 256 % 256 ≡ v / 256 ^ 3 = omega (arith, h) in z) ∙ joined-all 3 v (omega (arith, h))
        ∙ (let z : v ≡ v % 2 ^ 32 = omega (arith, h) in z)
        ∙ ap (λ c. if c then v % 2 ^ 32 else v % 2 ^ 32 + (2 ^ 64 - 2 ^ 32)) (sym (is-less (2 * (v % 2 ^ 32)) (2 ^ 32) (omega (arith, h, lt))))
    by false e =
        let le = more-where (2 * (v / 256 ^ 3 % 256 % 256)) 256 e in
        ap (λ x. joined (x + (2 ^ 64 - 256)) v 3) (let z : v / 256 ^ 3 % 256 % 256 ≡ v / 256 ^ 2 / 256 = omega (arith, h) in z)
        ∙ ap (λ x. joined x v 2) (negative (v / 256 ^ 2) 256 (omega (arith, h)) (omega arith))
        ∙ ap (λ x. joined (x + (2 ^ 64 - 65536)) v 2) (let z : v / 256 ^ 2 ≡ v / 256 ^ 1 / 256 = omega (arith, h) in z)
        ∙ ap (λ x. joined x v 1) (negative (v / 256 ^ 1) 65536 (omega (arith, h)) (omega arith))
        ∙ ap (λ x. joined (x + (2 ^ 64 - 16777216)) v 1) (let z : v / 256 ^ 1 ≡ v / 256 ^ 0 / 256 = omega (arith, h) in z)
        ∙ negative (v / 256 ^ 0) 16777216 (omega (arith, h)) (omega arith)
        ∙ (let z : v / 256 ^ 0 + (2 ^ 64 - 256 * 16777216) ≡ v % 2 ^ 32 + (2 ^ 64 - 2 ^ 32) = omega (arith, h) in z)
        ∙ ap (λ c. if c then v % 2 ^ 32 else v % 2 ^ 32 + (2 ^ 64 - 2 ^ 32)) (sym (not-less (2 * (v % 2 ^ 32)) (2 ^ 32) (omega (arith, h, le))))

-- ---- by type
-- the type by which the highest byte is read
abbrev pub high_type : ValueType → ValueType
high_type value_type.Char = value_type.Char
high_type value_type.Short = value_type.Char
high_type value_type.Int = value_type.Char
high_type t = value_type.UnsignedChar

-- after the highest byte, so read, the others make the number that the type reads
pub joined-typed : (t : ValueType) (v : ℕ) → v < 256 ^ width t → joined (extended_by_type (high_type t) (byte_of v (width t - 1))) v (width t - 1) ≡ extended_by_type t v
joined-typed value_type.Char v h = ap (λ x. sign_part_of x 1) (let z : v / 256 ^ 0 % 256 ≡ v = omega (arith, h) in z)
joined-typed value_type.UnsignedChar v h = let z : v / 256 ^ 0 % 256 % 2 ^ 8 ≡ v % 2 ^ 8 = omega (arith, h) in z
joined-typed value_type.Short v h = short v h
joined-typed value_type.UnsignedShort v h =
    ap (λ x. joined x v 1) (let z : v / 256 ^ 1 % 256 % 2 ^ 8 ≡ v / 256 ^ 1 = omega (arith, h) in z) ∙ joined-all 1 v (omega (arith, h)) ∙ (let z : v ≡ v % 2 ^ 16 = omega (arith, h) in z)
joined-typed value_type.Int v h = int v h
joined-typed value_type.UnsignedInt v h =
    ap (λ x. joined x v 3) (let z : v / 256 ^ 3 % 256 % 2 ^ 8 ≡ v / 256 ^ 3 = omega (arith, h) in z) ∙ joined-all 3 v (omega (arith, h)) ∙ (let z : v ≡ v % 2 ^ 32 = omega (arith, h) in z)
joined-typed value_type.Long v h =
    ap (λ x. joined x v 7) (let z : v / 256 ^ 7 % 256 % 2 ^ 8 ≡ v / 256 ^ 7 = omega (arith, h) in z) ∙ joined-all 7 v (omega (arith, h))
