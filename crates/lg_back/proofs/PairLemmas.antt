-- Bytes that digits spell, by numbers that are 2^32 or more where a digit is none.
use Rattle.std.proofs.Common.{◌≡◌, ℕ, ◌+◌, ◌*◌, ◌/◌, ◌%◌, ◌^◌, ◌<◌, ◌≤◌, List, [], ◌∷◌, ◌++◌, length, drop, get_or, Some, None, sym, ap, ap₂, ◌∙◌, arith, ⊎_elim}
use Rattle.std.specs.Int.{w32, to_le_bytes}
use Rattle.std.specs.Option.{option_map}
use Rattle.std.proofs.Math.Nat.{lt_of_not-le}
use Rattle.std.proofs.lemmas.Bool.Decides.{leb_tells}
use Rattle.lg_back.specs.Digits.{digit_value, byte_value, with_low, before_rest, hex_front}

-- what is known of a number in the place of a digit's value
pub record IsDigit (code value : ℕ) : Type 0 where
  pub some : value < 16 → digit_value code ≡ Some value
  pub none : 16 ≤ value → digit_value code ≡ None
  pub far : 16 ≤ value → value ≡ 2 ^ 32

-- of one in the place of a byte
pub record IsPair (high low value : ℕ) : Type 0 where
  pub some : value < 256 → byte_value high low ≡ Some value
  pub none : 256 ≤ value → byte_value high low ≡ None
  pub far : 256 ≤ value → 2 ^ 32 ≤ value

digit-below : (c v : ℕ) → IsDigit c v → v < 4294967296 → v < 16
digit-below c v d lt = lt_of_not-le (λ le. omega (arith, d.far le, lt))

pub pair-some : (a b high low : ℕ) → IsDigit a high → IsDigit b low → high * 16 + low < 256 → byte_value a b ≡ Some (high * 16 + low)
pair-some a b high low d e lt =
    let h : digit_value a ≡ Some high = d.some (digit-below a high d (omega (arith, lt))) in
    let l : digit_value b ≡ Some low = e.some (digit-below b low e (omega (arith, lt))) in
    ap (λ o. with_low o b) h ∙ ap (λ o. option_map (λ l. high * 16 + l) o) l

none-high : (a b high : ℕ) → IsDigit a high → 16 ≤ high → byte_value a b ≡ None
none-high a b high d le = ap (λ o. with_low o b) (d.none le)

none-low : (a b high low : ℕ) → IsDigit a high → IsDigit b low → high < 16 → 16 ≤ low → byte_value a b ≡ None
none-low a b high low d e lt le = ap (λ o. with_low o b) (d.some lt) ∙ ap (λ o. option_map (λ l. high * 16 + l) o) (e.none le)

pub pair-none : (a b high low : ℕ) → IsDigit a high → IsDigit b low → 256 ≤ high * 16 + low → byte_value a b ≡ None
pair-none a b high low d e le = ⊎_elim (λ t. none-high a b high d t.1) (λ t. none-low a b high low d e t.1 (omega (arith, le, t.1))) (leb_tells 16 high)

pub pair-far : (a b high low : ℕ) → IsDigit a high → IsDigit b low → 256 ≤ high * 16 + low → 2 ^ 32 ≤ high * 16 + low
pair-far a b high low d e le =
    ⊎_elim (λ t. let far = d.far t.1 in omega (arith, far)) (λ t. let far = e.far (omega (arith, le, t.1)) in omega (arith, far)) (leb_tells 16 high)

pair-below : (a b v : ℕ) → IsPair a b v → v < 4294967296 → v < 256
pair-below a b v p lt = lt_of_not-le (λ le. omega (arith, p.far le, lt))

-- the bytes of a word of four
word-bytes : (p q r s : ℕ) → p < 256 → q < 256 → r < 256 → s < 256 → to_le_bytes w32 (((s * 256 + r) * 256 + q) * 256 + p) ≡ p ∷ q ∷ r ∷ s ∷ []
word-bytes p q r s pl ql rl sl =
    let n = ((s * 256 + r) * 256 + q) * 256 + p in
    let first : n % 256 ≡ p = omega arith in
    let second : n / 256 % 256 ≡ q = omega arith in
    let third : n / 65536 % 256 ≡ r = omega arith in
    let fourth : n / 16777216 % 256 ≡ s = omega arith in
    ap₂ (λ x y. x ∷ y ∷ n / 65536 % 256 ∷ n / 16777216 % 256 ∷ []) first second ∙ ap₂ (λ x y. p ∷ q ∷ x ∷ y ∷ []) third fourth

four-is : (a b c d e f g h : ℕ) (rest : List ℕ) (p q r s : ℕ) → IsPair a b p → IsPair c d q → IsPair e f r → IsPair g h s → ((s * 256 + r) * 256 + q) * 256 + p < 4294967296
    → hex_front (a ∷ b ∷ c ∷ d ∷ e ∷ f ∷ g ∷ h ∷ rest) ≡ to_le_bytes w32 (((s * 256 + r) * 256 + q) * 256 + p) ++ hex_front rest
four-is a b c d e f g h rest p q r s i j k l lt =
    let pl = pair-below a b p i (omega (arith, lt)) in
    let ql = pair-below c d q j (omega (arith, lt)) in
    let rl = pair-below e f r k (omega (arith, lt)) in
    let sl = pair-below g h s l (omega (arith, lt)) in
    ap₂ before_rest (i.some pl) (ap₂ before_rest (j.some ql) (ap₂ before_rest (k.some rl) (ap (λ o. before_rest o (hex_front rest)) (l.some sl))))
    ∙ ap (λ xs. xs ++ hex_front rest) (sym (word-bytes p q r s pl ql rl sl))

-- the bytes that a text begins with where its first eight digits spell four
pub front-is : (text : List ℕ) (p q r s : ℕ) → 8 ≤ length text → IsPair (get_or text 0 0) (get_or text 1 0) p → IsPair (get_or text 2 0) (get_or text 3 0) q
    → IsPair (get_or text 4 0) (get_or text 5 0) r → IsPair (get_or text 6 0) (get_or text 7 0) s → ((s * 256 + r) * 256 + q) * 256 + p < 4294967296
    → hex_front text ≡ to_le_bytes w32 (((s * 256 + r) * 256 + q) * 256 + p) ++ hex_front (drop 8 text)
front-is [] p q r s le i j k l lt = absurd (omega (arith, le))
front-is (a ∷ []) p q r s le i j k l lt = absurd (omega (arith, le))
front-is (a ∷ b ∷ []) p q r s le i j k l lt = absurd (omega (arith, le))
front-is (a ∷ b ∷ c ∷ []) p q r s le i j k l lt = absurd (omega (arith, le))
front-is (a ∷ b ∷ c ∷ d ∷ []) p q r s le i j k l lt = absurd (omega (arith, le))
front-is (a ∷ b ∷ c ∷ d ∷ e ∷ []) p q r s le i j k l lt = absurd (omega (arith, le))
front-is (a ∷ b ∷ c ∷ d ∷ e ∷ f ∷ []) p q r s le i j k l lt = absurd (omega (arith, le))
front-is (a ∷ b ∷ c ∷ d ∷ e ∷ f ∷ g ∷ []) p q r s le i j k l lt = absurd (omega (arith, le))
front-is (a ∷ b ∷ c ∷ d ∷ e ∷ f ∷ g ∷ h ∷ rest) p q r s le i j k l lt = four-is a b c d e f g h rest p q r s i j k l lt
