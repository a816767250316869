-- REX is the one of the spelling exactly where the tests of what a row asks for say so.
use Rattle.std.proofs.Common.{◌≡◌, ℕ, ◌+◌, ◌/◌, ◌%◌, ◌<◌, Bool, true, false, refl, sym, ◌∙◌, arith}
use Rattle.std.specs.Prelude.{◌==◌, ◌&&◌, ◌||◌, not, if◌then◌else◌}
use Rattle.std.proofs.lemmas.Bool.Decides.{nat_tests}
use Rattle.std.proofs.lemmas.Bool.{and_parts, eqb-true, and_from, ne_eqb, not-true}
use Rattle.lg_x86.specs.declared.rows.Mark.TheVariants.{Wide, Low, Plain}
use Rattle.lg_x86.specs.Spelling.{extension}
use Rattle.lg_x86.specs.Reading.{is_wide, is_wide_one, is_plain_one, is_low_one, is_marked, is_low, mark_in}
use Rattle.lg_x86.proofs.FrontLemmas.{rex_value}
use Rattle.lg_x86.proofs.AcceptLemmas.{true_is, decided, pair_true, pair_is, IsRex, none, some}

pub wide_is : (r reg rm : ℕ) → IsRex r → reg / 8 ≡ r / 4 % 2 → rm / 8 ≡ r % 2 → (r == rex_value Wide (extension reg 0 rm)) ≡ is_wide r
unfolding is_wide
wide_is r reg rm rex_is a b =
    decided (r == rex_value Wide (extension reg 0 rm)) ((r / 8 % 2 == 1) && (r / 2 % 2 == 0))
    (λ e. let is : r ≡ 0x48 + extension reg 0 rm = eqb-true r (0x48 + extension reg 0 rm) e in pair_true (r / 8 % 2) 1 (r / 2 % 2) 0 (omega (arith, is, a, b)) (omega (arith, is, a, b)))
    (λ e. let is = pair_is (r / 8 % 2) 1 (r / 2 % 2) 0 e in true_is r (0x48 + extension reg 0 rm) (ranged rex_is is.0 is.1))
  where
    ranged : IsRex r → r / 8 % 2 ≡ 1 → r / 2 % 2 ≡ 0 → r ≡ 0x48 + extension reg 0 rm
    ranged (none naught) w x = omega (arith, naught, w)
    ranged (some over under) w x = omega (arith, over, under, w, x, a, b)

pub end_of : (b : Bool) → (b && true) ≡ b
end_of true = refl
end_of false = refl

pub or_none : (b : Bool) → (b || false) ≡ b
or_none true = refl
or_none false = refl

pub some_bits : (n : ℕ) → (n == 0) ≡ false → 0 < n
some_bits n e = grind (arith, nat_tests)

pub wide_one_is : (r rm : ℕ) → IsRex r → rm / 8 ≡ r % 2 → (r == rex_value Wide (extension 0 0 rm)) ≡ is_wide_one r
unfolding is_wide_one
wide_one_is r rm rex_is b =
    decided (r == rex_value Wide (extension 0 0 rm)) ((r / 8 % 2 == 1) && (r / 2 % 4 == 0))
    (λ e. let is : r ≡ 0x48 + extension 0 0 rm = eqb-true r (0x48 + extension 0 0 rm) e in pair_true (r / 8 % 2) 1 (r / 2 % 4) 0 (omega (arith, is, b)) (omega (arith, is, b)))
    (λ e. let is = pair_is (r / 8 % 2) 1 (r / 2 % 4) 0 e in true_is r (0x48 + extension 0 0 rm) (ranged rex_is is.0 is.1))
  where
    ranged : IsRex r → r / 8 % 2 ≡ 1 → r / 2 % 4 ≡ 0 → r ≡ 0x48 + extension 0 0 rm
    ranged (none naught) w x = omega (arith, naught, w)
    ranged (some over under) w x = omega (arith, over, under, w, x, b)

pub plain_one_is : (r rm : ℕ) → rm / 8 ≡ r % 2 → (r == rex_value Plain (extension 0 0 rm)) ≡ is_plain_one r
unfolding is_plain_one
plain_one_is r rm b = by (extension 0 0 rm == 0) refl
  where
    by : (c : Bool) → (extension 0 0 rm == 0) ≡ c → (r == (if c then 0 else 0x40 + extension 0 0 rm)) ≡ ((r == 0) || (r == 0x41))
    by true e =
        let naught : extension 0 0 rm ≡ 0 = eqb-true (extension 0 0 rm) 0 e in
        rw (ne_eqb r 0x41 (λ is. omega (arith, is, naught, b))) (sym (or_none (r == 0)))
    by false e =
        let more : 0 < extension 0 0 rm = some_bits (extension 0 0 rm) e in
        let one : extension 0 0 rm ≡ 1 = omega (arith, more, b) in
        rw (ne_eqb r 0 (λ is. omega (arith, is, more, b)), one) refl

pub low_one_is : (r rm : ℕ) → rm / 8 ≡ r % 2 → (r == rex_value Low (extension 0 0 rm)) ≡ is_low_one r
unfolding is_low_one
low_one_is r rm b = by (extension 0 0 rm == 0) refl
  where
    by : (c : Bool) → (extension 0 0 rm == 0) ≡ c → (r == 0x40 + extension 0 0 rm) ≡ ((r == 0x40) || (r == 0x41))
    by true e =
        let naught : extension 0 0 rm ≡ 0 = eqb-true (extension 0 0 rm) 0 e in
        rw (naught, ne_eqb r 0x41 (λ is. omega (arith, is, naught, b))) (sym (or_none (r == 0x40)))
    by false e =
        let more : 0 < extension 0 0 rm = some_bits (extension 0 0 rm) e in
        let one : extension 0 0 rm ≡ 1 = omega (arith, more, b) in
        rw (one, ne_eqb r 0x40 (λ is. omega (arith, is, more, b))) refl

pub low_two_is : (r reg rm : ℕ) → IsRex r → reg / 8 ≡ r / 4 % 2 → rm / 8 ≡ r % 2 → (r == rex_value Low (extension reg 0 rm)) ≡ is_low r
unfolding is_low
low_two_is r reg rm rex_is a b =
    decided (r == rex_value Low (extension reg 0 rm)) ((r / 8 == 8) && (r / 2 % 2 == 0))
    (λ e. let is : r ≡ 0x40 + extension reg 0 rm = eqb-true r (0x40 + extension reg 0 rm) e in pair_true (r / 8) 8 (r / 2 % 2) 0 (omega (arith, is, a, b)) (omega (arith, is, a, b)))
    (λ e. let is = pair_is (r / 8) 8 (r / 2 % 2) 0 e in let w = is.0 in let x = is.1 in true_is r (0x40 + extension reg 0 rm) (omega (arith, w, x, a, b)))

pub marked_plain : (r reg rm : ℕ) → IsRex r → reg / 8 ≡ r / 4 % 2 → rm / 8 ≡ r % 2 → (r / 8 % 2 ≡ 1 → ⊥) → (r == rex_value Plain (extension reg 0 rm)) ≡ ((r / 2 % 2 == 0) && not (r == 0x40))
marked_plain r reg rm rex_is a b narrow = by (extension reg 0 rm == 0) refl rex_is
  where
    by : (c : Bool) → (extension reg 0 rm == 0) ≡ c → IsRex r → (r == (if c then 0 else 0x40 + extension reg 0 rm)) ≡ ((r / 2 % 2 == 0) && not (r == 0x40))
    by true e (none naught) = rw naught refl
    by true e (some over under) =
        let no_bits : extension reg 0 rm ≡ 0 = eqb-true (extension reg 0 rm) 0 e in
        decided (r == 0) ((r / 2 % 2 == 0) && not (r == 0x40))
        (λ f. let naught = eqb-true r 0 f in absurd (omega (arith, naught, over)))
        (λ f.
        let x = eqb-true (r / 2 % 2) 0 (and_parts (r / 2 % 2 == 0) (not (r == 0x40)) f).0 in
        let other = not-true (r == 0x40) (and_parts (r / 2 % 2 == 0) (not (r == 0x40)) f).1 in
        let is : r ≡ 0x40 = (let no : r / 8 % 2 ≡ 0 = narrowed in omega (arith, over, under, x, no, no_bits, a, b)) in
        absurd (let no : ⊥ = grind (arith, nat_tests) in no))
      where
        narrowed : r / 8 % 2 ≡ 0
        narrowed = omega (arith, narrow)
    by false e k =
        let more : 0 < extension reg 0 rm = some_bits (extension reg 0 rm) e in
        decided (r == 0x40 + extension reg 0 rm) ((r / 2 % 2 == 0) && not (r == 0x40))
        (λ f.
        let is : r ≡ 0x40 + extension reg 0 rm = eqb-true r (0x40 + extension reg 0 rm) f in
        and_from (r / 2 % 2 == 0) (not (r == 0x40)) (true_is (r / 2 % 2) 0 (omega (arith, is, a, b))) (rw (ne_eqb r 0x40 (λ same. omega (arith, same, is, more))) refl))
        (λ f.
        let x = eqb-true (r / 2 % 2) 0 (and_parts (r / 2 % 2 == 0) (not (r == 0x40)) f).0 in
        let no : r / 8 % 2 ≡ 0 = omega (arith, narrow) in
        true_is r (0x40 + extension reg 0 rm) (ranged k x no))
      where
        ranged : IsRex r → r / 2 % 2 ≡ 0 → r / 8 % 2 ≡ 0 → r ≡ 0x40 + extension reg 0 rm
        ranged (none naught) x thin = absurd (let over = some_bits (extension reg 0 rm) e in omega (arith, over, naught, a, b))
        ranged (some over under) x thin = omega (arith, over, under, x, thin, a, b)

pub wide_marked : (r : ℕ) → r / 8 % 2 ≡ 1 → (r / 8 % 2 == 1) ≡ true → is_wide r ≡ ((r / 2 % 2 == 0) && not (r == 0x40))
unfolding is_wide
wide_marked r w e = rw (e, ne_eqb r 0x40 (λ is. omega (arith, is, w))) (sym (end_of (r / 2 % 2 == 0)))

pub marked_is : (r reg rm : ℕ) → IsRex r → reg / 8 ≡ r / 4 % 2 → rm / 8 ≡ r % 2 → (r == rex_value (mark_in r) (extension reg 0 rm)) ≡ is_marked r
unfolding is_marked
marked_is r reg rm rex_is a b = by (r / 8 % 2 == 1) refl
  where
    by : (c : Bool) → (r / 8 % 2 == 1) ≡ c → (r == rex_value (if c then Wide else Plain) (extension reg 0 rm)) ≡ ((r / 2 % 2 == 0) && not (r == 0x40))
    by true e =
        let w = eqb-true (r / 8 % 2) 1 e in
        wide_is r reg rm rex_is a b ∙ wide_marked r w e
    by false e = marked_plain r reg rm rex_is a b (λ w. let t = true_is (r / 8 % 2) 1 w in absurd (let no : ⊥ = cc in no))
