-- The digits that `atoi` reads.
use Rattle.std.proofs.Common.{◌≡◌, ℕ, ◌+◌, ◌-◌, ◌*◌, ◌^◌, Bool, true, false, List, [], ◌∷◌, ◌++◌, refl, ap, ◌∙◌, ⊎_elim, arith, eqb}
use Rattle.std.specs.Prelude.{nat_lt}
use Rattle.std.specs.List.{AllByRecursion}
use Rattle.std.specs.Str.Parse.{AllDigits, IsNumeral, digits_value, digits_value_after}
use Rattle.std.proofs.lemmas.Str.{digit_value_digit}
use Rattle.std.proofs.lemmas.Str.Parse.{digit_from_value}
use Rattle.std.proofs.lemmas.Fmt.{decimal_is_IsNumeral}
use Rattle.lg_host.specs.Strings.{is_space, is_digit, int_word, number_in, atoi_in}
use Rattle.lg_host.specs.NumberLaws.{IsSign, ReadsItsDigits, ReadsWhatIsPrinted}
use Rattle.lg_host.proofs.StringLemmas.{number-step}

number-digits : (negative : Bool) (n : ℕ) (ds : List ℕ) (b : ℕ) (rest : List ℕ) → AllDigits 10 ds → is_digit b ≡ false → number_in negative n (ds ++ b ∷ rest) ≡ int_word negative (digits_value_after 10 n ds)
number-digits negative n [] b rest d e = rw e refl
number-digits negative n (c ∷ cs) b rest d e =
    let k = digit_from_value c d.0 in
    number-step negative n c (cs ++ b ∷ rest) k.0 k.1
    ∙ number-digits negative (n * 10 + (c - 48)) cs b rest d.1 e
    ∙ ap (λ m. int_word negative (digits_value_after 10 m cs)) (omega (arith, digit_value_digit c k))

atoi-spaces : (spaces xs : List ℕ) → AllByRecursion (λ s. is_space s ≡ true) spaces → atoi_in (spaces ++ xs) ≡ atoi_in xs
atoi-spaces [] xs h = refl
atoi-spaces (s ∷ ss) xs h = rw h.0 (atoi-spaces ss xs h.1)

-- digits with no sign before them
atoi-digits : (ds : List ℕ) (b : ℕ) (rest : List ℕ) → IsNumeral 10 ds → is_digit b ≡ false → atoi_in (ds ++ b ∷ rest) ≡ int_word false (digits_value 10 ds)
atoi-digits [] b rest d e = absurd (omega (arith, d.0))
atoi-digits (c ∷ cs) b rest d e =
    let k = digit_from_value c d.1.0 in
    let s : is_space c ≡ false = grind (arith, k) in
    let minus : eqb c 45 ≡ false = grind (arith, k) in
    let plus : eqb c 43 ≡ false = grind (arith, k) in
    rw (s, minus, plus) (number-digits false 0 (c ∷ cs) b rest d.1 e)

atoi-signed : (sign ds rest : List ℕ) (negative : Bool) (b : ℕ) → IsSign negative sign → IsNumeral 10 ds → is_digit b ≡ false → atoi_in (sign ++ (ds ++ b ∷ rest)) ≡ int_word negative (digits_value 10 ds)
atoi-signed sign ds rest negative b is d e = ⊎_elim
    (λ k. rw (k.0, k.1) (atoi-digits ds b rest d e))
    (⊎_elim (λ k. rw (k.0, k.1) (number-digits false 0 ds b rest d.1 e)) (λ k. rw (k.0, k.1) (number-digits true 0 ds b rest d.1 e)))
    is

pub reads-its-digits : ReadsItsDigits
reads-its-digits spaces sign ds rest negative b s is d e = atoi-spaces spaces (sign ++ (ds ++ b ∷ rest)) s ∙ atoi-signed sign ds rest negative b is d e

pub reads-what-is-printed : ReadsWhatIsPrinted
reads-what-is-printed n b rest l e =
    let k = decimal_is_IsNumeral n (omega arith) in
    let t : nat_lt n (2 ^ 31) ≡ true = grind arith in
    atoi-digits _ b rest k.0 e ∙ ap (int_word false) k.1 ∙ rw t refl
