use Rattle.std.proofs.Common.{◌≡◌, ℕ, zero, suc, ◌+◌, ◌-◌, ◌*◌, ◌/◌, ◌%◌, ◌^◌, ◌<◌, ◌≤◌, Bool, List, [], ◌∷◌, length, drop, sym, ap, ap₂, ◌∙◌, arith, refl}
use Rattle.std.specs.Prelude.{slice_set, if◌then◌else◌}
use Rattle.std.specs.Fmt.{digits, digits_onto, digit_glyph}
use Rattle.std.proofs.lemmas.List.{drop-set, drop_all}
use Rattle.std.proofs.Math.ListN.{length-set}
use Rattle.std.proofs.Math.Nat.{pow-suc, mul-le-mul_left, div-lt_iff_lt-mul}
use Rattle.std.proofs.lemmas.Bool.{eq-eqb, ne_eqb}
use Rattle.lg_io.proofs.digits.write_digits.Goals as goal

digits_onto-nil : (base : ℕ) (u : Bool) (n : ℕ) → digits_onto 64 base u n [] ≡ digits base u n
unfolding digits
digits_onto-nil base u n = refl

onto_last : (i base : ℕ) (u : Bool) (n : ℕ) (acc : List ℕ) → 0 < i → n / base ≡ 0 → digits_onto i base u n acc ≡ digit_glyph u (n % base) ∷ acc
onto_last zero base u n acc h e = absurd (omega arith)
onto_last (suc k) base u n acc h e = ap (λ b. if b then (digit_glyph u (n % base) ∷ acc) else (digits_onto k base u (n / base) (digit_glyph u (n % base) ∷ acc))) (eq-eqb _ 0 e)

onto_step : (k i base : ℕ) (u : Bool) (n : ℕ) (acc : List ℕ) → i ≡ suc k → (n / base ≡ 0 → ⊥) → digits_onto i base u n acc ≡ digits_onto k base u (n / base) (digit_glyph u (n % base) ∷ acc)
onto_step k i base u n acc h e =
    ap (λ j. digits_onto j base u n acc) h ∙ ap (λ b. if b then (digit_glyph u (n % base) ∷ acc) else (digits_onto k base u (n / base) (digit_glyph u (n % base) ∷ acc))) (ne_eqb _ 0 e)

begins : (i base : ℕ) (u : Bool) (n : ℕ) (xs : List ℕ) → i ≡ 64 → xs ≡ [] → digits base u n ≡ digits_onto i base u n xs
begins i base u n xs e f = sym (digits_onto-nil base u n) ∙ ap₂ (λ j ys. digits_onto j base u n ys) (sym e) (sym f)

-- the digit that is written joins those after it
front : (xs : List ℕ) (at : ℕ) (g : ℕ) → 0 < at → at ≤ length xs → drop (at - 1) (slice_set xs (at - 1) g) ≡ g ∷ drop at xs
front xs at g h le = let lt : at - 1 < length xs = omega arith in let e : at - 1 + 1 ≡ at = omega arith in drop-set xs (at - 1) g lt ∙ ap (λ k. g ∷ drop k xs) e

quotient-zero : (n base : ℕ) → n < base → n / base ≡ 0
quotient-zero n base lt = let h : n / base < 1 = (div-lt_iff_lt-mul {k = base} {x = n} {y = 1} (omega arith)).1 (omega arith) in omega arith

quotient-positive : (n base : ℕ) → 8 ≤ base → base ≤ n → n / base ≡ 0 → ⊥
quotient-positive n base lo le e = let q : n / base < 1 = omega arith in let h : n < 1 * base = (div-lt_iff_lt-mul {k = base} {x = n} {y = 1} (omega arith)).0 q in omega arith

smaller : (n base at : ℕ) → 8 ≤ base → 0 < at → n < 8 ^ at → base ≤ n → (n / base < 8 ^ (at - 1)) × (0 < at - 1)
smaller n base zero lo h lt ge = absurd (omega arith)
smaller n base (suc zero) lo h lt ge = absurd (omega arith)
smaller n base (suc (suc k)) lo h lt ge =
    let p = pow-suc 8 (suc k) in
    let grows : 8 ^ suc k * 8 ≤ 8 ^ suc k * base = mul-le-mul_left (8 ^ suc k) lo in
    let below : n / base < 8 ^ suc k = (div-lt_iff_lt-mul {k = base} {x = n} {y = 8 ^ suc k} (omega arith)).1 (omega (arith, p, grows)) in
    let one : suc (suc k) - 1 ≡ suc k = omega arith in
    (rw one below, omega arith)

pub loop-at-init : goal.loop-at-init
loop-at-init c = record {
  told = λ i e. begins i _ _ c.args.number _ e (drop_all 22 c.args.into.now (omega arith));
  room = omega (arith, c.ranges.number);
  positive = omega arith;
  within = omega arith;
  kept = c.told-into;
}

pub returns-then-rest-base-clause-digits : goal.returns-then-rest-base-clause-digits
returns-then-rest-base-clause-digits c =
    let i = c.loop-at.invariant in
    let last = onto_last (42 + c.loop-at.at) c.args.base c.args.capitals c.loop-at.rest (drop c.loop-at.at c.loop-at.into) (omega arith) (quotient-zero _ _ c.if-rest-base.true) in
    front c.loop-at.into c.loop-at.at c.glyph.result i.positive (omega (arith, i.kept, i.within)) ∙ ap (λ g. g ∷ drop c.loop-at.at c.loop-at.into) c.glyph.ensures ∙ sym (i.told _ (omega arith) ∙ last)

pub loop-at-preserved : goal.loop-at-preserved
loop-at-preserved c =
    let i = c.loop-at.invariant in
    let s = smaller c.loop-at.rest c.args.base c.loop-at.at c.requires.low i.positive i.room c.if-rest-base.false in
    let more : c.loop-at.rest / c.args.base ≡ 0 → ⊥ = quotient-positive _ _ c.requires.low c.if-rest-base.false in
    let joined = front c.loop-at.into c.loop-at.at c.glyph.result i.positive (omega (arith, i.kept, i.within)) ∙ ap (λ g. g ∷ drop c.loop-at.at c.loop-at.into) c.glyph.ensures in
    record {
      told = λ j e. i.told _ refl ∙ onto_step j (42 + c.loop-at.at) c.args.base c.args.capitals c.loop-at.rest (drop c.loop-at.at c.loop-at.into) (omega arith) more ∙ ap (digits_onto j c.args.base c.args.capitals (c.loop-at.rest / c.args.base)) (sym joined);
      room = s.0;
      positive = s.1;
      within = omega (arith, i.within);
      kept = simp length-set i.kept;
    }
