-- The low bytes of a word in memory.
use Rattle.std.proofs.Common.{◌≡◌, ℕ, suc, ◌+◌, ◌*◌, ◌%◌, ◌^◌, ◌<◌, ◌≤◌, true, Option, Some, refl, sym, ap, ◌∙◌, arith}
use Rattle.lg_base.specs.Spaces.{mapped, number_at, byte_or_zero, loaded}
use Rattle.lg_base.proofs.SpaceLemmas.{mapped-each, mapped-all, number_at-lt}
use Rattle.lg_op.specs.declared.op.ValueType.{ValueType}
use Rattle.lg_op.specs.declared.op.ValueType.TheVariants as value_type
use Rattle.lg_op.specs.Operators.{width, extended_by_type}
use Rattle.lg_carry.proofs.OfNodes.ByteLemmas.{byte-small, mapped-where}

next : (m : ℕ → ℕ) (a w : ℕ) → number_at m a (suc w) ≡ m a + 256 * number_at m (a + 1) w
unfolding number_at
next m a w = refl

none : (m : ℕ → ℕ) (a : ℕ) → number_at m a 0 ≡ 0
unfolding number_at
none m a = refl

-- eight bytes are some and the rest
module _ (m : ℕ → ℕ) (a : ℕ) (small : (j : ℕ) → m j < 256) where
  part-1 : number_at m a 8 % 256 ≡ number_at m a 1
  part-1 = let p = next m a 7 in let q = next m a 0 in let e = none m (a + 1) in omega (arith, p, q, e, small a)

  part-2 : number_at m a 8 % 65536 ≡ number_at m a 2
  part-2 =
      let p = next m a 7 in let p' = next m (a + 1) 6 in
      let q = next m a 1 in let q' = next m (a + 1) 0 in
      let e = none m (a + 1 + 1) in omega (arith, p, p', q, q', e, small a, small (a + 1))

  part-4 : number_at m a 8 % 4294967296 ≡ number_at m a 4
  part-4 =
      let p = next m a 7 in let p1 = next m (a + 1) 6 in let p2 = next m (a + 1 + 1) 5 in let p3 = next m (a + 1 + 1 + 1) 4 in
      let q = next m a 3 in let q1 = next m (a + 1) 2 in let q2 = next m (a + 1 + 1) 1 in let q3 = next m (a + 1 + 1 + 1) 0 in
      let e = none m (a + 1 + 1 + 1 + 1) in omega (arith, p, p1, p2, p3, q, q1, q2, q3, e, small a, small (a + 1), small (a + 1 + 1), small (a + 1 + 1 + 1))

  part-8 : number_at m a 8 % 18446744073709551616 ≡ number_at m a 8
  part-8 = let lt = number_at-lt m a 8 small in omega (arith, lt)

  low-part : (t : ValueType) → number_at m a 8 % 256 ^ width t ≡ number_at m a (width t)
  low-part value_type.Short = part-2
  low-part value_type.UnsignedShort = part-2
  low-part value_type.Int = part-4
  low-part value_type.UnsignedInt = part-4
  low-part value_type.Long = part-8
  low-part _ = part-1

pub width-few : (t : ValueType) → width t ≤ 8
width-few value_type.Char = omega arith
width-few _ = omega arith

-- where a word is, the number of its first bytes is its low part
pub part-loaded : (m : ℕ → Option ℕ) (a v : ℕ) (t : ValueType) → ((a b : ℕ) → m a ≡ Some b → b < 256) → loaded m a 8 ≡ Some v → loaded m a (width t) ≡ Some (v % 256 ^ width t)
part-loaded m a v t small e =
    let k = mapped-where (mapped m a 8) (number_at (byte_or_zero m) a 8) v e in
    let there : mapped m a (width t) ≡ true = let few = width-few t in mapped-all m a (width t) (λ j le lt. mapped-each m a 8 j k.0 le (omega (arith, lt, few))) in
    rw there (ap (λ x. Some x) (sym (low-part (byte_or_zero m) a (byte-small m small) t) ∙ ap (λ x. x % 256 ^ width t) k.1))

-- a type reads no more
pub typed-part : (t : ValueType) (v : ℕ) → v < 2 ^ 64 → extended_by_type t (v % 256 ^ width t) ≡ extended_by_type t v
typed-part value_type.UnsignedChar v lt = omega arith
typed-part value_type.UnsignedShort v lt = omega arith
typed-part value_type.UnsignedInt v lt = omega arith
typed-part value_type.Long v lt = omega (arith, lt)
typed-part other v lt = grind arith

pub part-less : (v : ℕ) (t : ValueType) → v % 256 ^ width t < 256 ^ width t
part-less v value_type.Char = omega arith
part-less v _ = omega arith
