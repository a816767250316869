-- A word as what is above a field, the field, and what is below it.
use Rattle.std.proofs.Common.{◌≡◌, ℕ, ◌+◌, ◌-◌, ◌*◌, ◌/◌, ◌%◌, ◌^◌, ◌<◌, ◌≤◌, ◌⊎◌, bit_or, sym, ap, ap₂, ◌∙◌, arith, ⊎_elim}
use Rattle.std.specs.Int.{bit_at}
use Rattle.std.specs.Int.Bits.{bit_xor, xor_self, xor_zero_r, or_zero_r, or_zero_l}
use Rattle.std.proofs.lemmas.Nat.{shr_split, xor_block, or_block, shr_high, mod_low, shl_whole, pow_pos}
use Rattle.std.proofs.lemmas.Nat.Bits.{bit_at_cat_low, bit_at_cat_high}
use Rattle.lg_base.specs.Fields.{part}

unfoldable pub joined : ℕ → ℕ → ℕ → ℕ → ℕ → ℕ
joined lo len high v low = (high * 2 ^ len + v) * 2 ^ lo + low

pub joined-split : (lo len word : ℕ) → joined lo len (word / 2 ^ lo / 2 ^ len) (part lo len word) (word % 2 ^ lo) ≡ word
unfolding joined
joined-split lo len word = ap (λ x. x * 2 ^ lo + word % 2 ^ lo) (shr_split (word / 2 ^ lo) len) ∙ shr_split word lo

plus_zero : (n : ℕ) → n ≡ n + 0
plus_zero n = omega arith

-- the field is cleared
xor-joined : (lo len high p low : ℕ) → p < 2 ^ len → low < 2 ^ lo → bit_xor (joined lo len high p low) (p * 2 ^ lo) ≡ joined lo len high 0 low
unfolding joined
xor-joined lo len high p low p_fits low_fits =
    let inner : bit_xor (high * 2 ^ len + p) (0 * 2 ^ len + p) ≡ bit_xor high 0 * 2 ^ len + bit_xor p p = xor_block len high 0 p p p_fits p_fits in
    let zero_l : 0 * 2 ^ len + p ≡ p = omega arith in
    let outer = xor_block lo (high * 2 ^ len + p) p low 0 low_fits (pow_pos lo) in
    ap (bit_xor ((high * 2 ^ len + p) * 2 ^ lo + low)) (plus_zero (p * 2 ^ lo)) ∙ outer ∙ ap₂ (λ x y. x * 2 ^ lo + y) (ap (bit_xor (high * 2 ^ len + p)) (sym zero_l) ∙ inner ∙ ap₂ (λ x y. x * 2 ^ len + y) (xor_zero_r high) (xor_self p)) (xor_zero_r low)

-- a number is put into a field of zeros
or-joined : (lo len high v low : ℕ) → v < 2 ^ len → low < 2 ^ lo → bit_or (joined lo len high 0 low) (v * 2 ^ lo) ≡ joined lo len high v low
unfolding joined
or-joined lo len high v low v_fits low_fits =
    let inner : bit_or (high * 2 ^ len + 0) (0 * 2 ^ len + v) ≡ bit_or high 0 * 2 ^ len + bit_or 0 v = or_block len high 0 0 v (pow_pos len) v_fits in
    let zero_l : 0 * 2 ^ len + v ≡ v = omega arith in
    let outer = or_block lo (high * 2 ^ len + 0) v low 0 low_fits (pow_pos lo) in
    ap (bit_or ((high * 2 ^ len + 0) * 2 ^ lo + low)) (plus_zero (v * 2 ^ lo)) ∙ outer ∙ ap₂ (λ x y. x * 2 ^ lo + y) (ap (bit_or (high * 2 ^ len + 0)) (sym zero_l) ∙ inner ∙ ap₂ (λ x y. x * 2 ^ len + y) (or_zero_r high) (or_zero_l v)) (or_zero_r low)

part-joined : (lo len high v low : ℕ) → v < 2 ^ len → low < 2 ^ lo → part lo len (joined lo len high v low) ≡ v
unfolding joined
part-joined lo len high v low v_fits low_fits = ap (λ x. x % 2 ^ len) (shr_high (high * 2 ^ len + v) lo low low_fits) ∙ mod_low high len v v_fits

bit_at-joined : (lo len high v p low i : ℕ) → v < 2 ^ len → p < 2 ^ len → low < 2 ^ lo → (i < lo) ⊎ (lo + len ≤ i) → bit_at (joined lo len high v low) i ≡ bit_at (joined lo len high p low) i
unfolding joined
bit_at-joined lo len high v p low i v_fits p_fits low_fits outside = ⊎_elim
    (λ below. bit_at_cat_low (high * 2 ^ len + v) lo low i below ∙ sym (bit_at_cat_low (high * 2 ^ len + p) lo low i below))
    (λ above.
    let from : lo ≤ i = omega arith in
    let rest : len ≤ i - lo = omega arith in
    bit_at_cat_high (high * 2 ^ len + v) lo low i low_fits from ∙ bit_at_cat_high high len v (i - lo) v_fits rest ∙ sym (bit_at_cat_high high len p (i - lo) p_fits rest) ∙ sym (bit_at_cat_high (high * 2 ^ len + p) lo low i low_fits from))
    outside

joined-sum : (lo len high v p low : ℕ) → joined lo len high v low + p * 2 ^ lo ≡ joined lo len high p low + v * 2 ^ lo
unfolding joined
joined-sum lo len high v p low = omega arith

-- what the code computes is the word with the number in the field
pub record IsPut (lo len word value result : ℕ) : Type 0 where
  pub sum : result + part lo len word * 2 ^ lo ≡ word + value * 2 ^ lo
  pub got : part lo len result ≡ value
  pub kept : (i : ℕ) → (i < lo) ⊎ (lo + len ≤ i) → bit_at result i ≡ bit_at word i

put_joined : (lo len high p low value : ℕ) → p < 2 ^ len → value < 2 ^ len → low < 2 ^ lo → IsPut lo len (joined lo len high p low) value (bit_or (bit_xor (joined lo len high p low) (p * 2 ^ lo)) (value * 2 ^ lo))
put_joined lo len high p low value p_fits v_fits low_fits =
    let is : bit_or (bit_xor (joined lo len high p low) (p * 2 ^ lo)) (value * 2 ^ lo) ≡ joined lo len high value low = ap (λ x. bit_or x (value * 2 ^ lo)) (xor-joined lo len high p low p_fits low_fits) ∙ or-joined lo len high value low v_fits low_fits in
    let old : part lo len (joined lo len high p low) ≡ p = part-joined lo len high p low p_fits low_fits in
    rw is record {
      sum = rw old (joined-sum lo len high value p low);
      got = part-joined lo len high value low v_fits low_fits;
      kept = λ i outside. bit_at-joined lo len high value p low i v_fits p_fits low_fits outside;
    }

pub put_is : (lo len word old value : ℕ) → lo + len ≤ 32 → old ≡ part lo len word → old < 2 ^ len → value < 2 ^ len
    → IsPut lo len word value (bit_or (bit_xor word (old * 2 ^ lo % 2 ^ 32)) (value * 2 ^ lo % 2 ^ 32))
put_is lo len word old value inside is old_fits v_fits =
    let room : len + lo ≤ 32 = omega arith in
    let a : old * 2 ^ lo % 2 ^ 32 ≡ old * 2 ^ lo = shl_whole old len lo 32 old_fits room in
    let b : value * 2 ^ lo % 2 ^ 32 ≡ value * 2 ^ lo = shl_whole value len lo 32 v_fits room in
    let split : joined lo len (word / 2 ^ lo / 2 ^ len) old (word % 2 ^ lo) ≡ word = ap (λ p. joined lo len (word / 2 ^ lo / 2 ^ len) p (word % 2 ^ lo)) is ∙ joined-split lo len word in
    let low : word % 2 ^ lo < 2 ^ lo = omega (arith, pow_pos lo) in
    rw (a, b) (rw split at (put_joined lo len (word / 2 ^ lo / 2 ^ len) old (word % 2 ^ lo) value old_fits v_fits low))
