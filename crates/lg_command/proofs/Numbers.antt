-- What is a number by the test is one by std's words.
use Rattle.std.proofs.Common.{◌≡◌, ℕ, ◌^◌, ◌<◌, ◌≤◌, List, [], ◌∷◌, length, Some, refl, sym, ap, subst, ◌∙◌}
use Rattle.std.specs.Prelude.{◌&&◌, nat_lt, if◌then◌else◌}
use Rattle.std.specs.Bool.{Decides}
use Rattle.std.specs.Char.{digit_value}
use Rattle.std.specs.Str.Parse.{AllDigits, IsNumeral, digits_value, without_leading_plus}
use Rattle.std.proofs.lemmas.Bool.Decides.{Decides-and, Decides-ltb}
use Rattle.std.proofs.lemmas.Bool.{false_from_ne_true}
use Rattle.clap.specs.Values.{IsUnsignedIn}
use Rattle.lg_command.specs.Commands.{are_digits, is_number, number_of}

digits_decide : (t : List ℕ) → Decides (are_digits t) (AllDigits 10 t)
digits_decide [] = (λ e. tt, λ h. refl)
digits_decide (c ∷ cs) = Decides-and (nat_lt (digit_value c) 10) (are_digits cs) (Decides-ltb (digit_value c) 10) (digits_decide cs)

number_decides : (t : List ℕ) → Decides (is_number t) ((0 < length t × AllDigits 10 t) × (digits_value 10 t < 2 ^ 64))
number_decides t =
    Decides-and (nat_lt 0 (length t) && are_digits t) (nat_lt (digits_value 10 t) (2 ^ 64))
    (Decides-and (nat_lt 0 (length t)) (are_digits t) (Decides-ltb 0 (length t)) (digits_decide t)) (Decides-ltb (digits_value 10 t) (2 ^ 64))

-- what is read of a text is its number
pub read_number : (t : List ℕ) (n : ℕ) → ((IsNumeral 10 (without_leading_plus t) × (digits_value 10 (without_leading_plus t) < 2 ^ 64)) × (n ≡ digits_value 10 (without_leading_plus t)))
    → n ≡ (if is_number (without_leading_plus t) then digits_value 10 (without_leading_plus t) else 0)
read_number t n h =
    let ds = without_leading_plus t in
    let yes = (number_decides ds).1 h.0 in
    h.1 ∙ sym (ap (λ b. if b then digits_value 10 ds else 0) yes)

-- and where none is read there is none
pub no_number : (t : List ℕ) → ¬ (IsNumeral 10 (without_leading_plus t) × (digits_value 10 (without_leading_plus t) < 2 ^ 64))
    → 0 ≡ (if is_number (without_leading_plus t) then digits_value 10 (without_leading_plus t) else 0)
no_number t h =
    let ds = without_leading_plus t in
    let no = false_from_ne_true (is_number ds) (λ yes. h ((number_decides ds).0 yes)) in
    sym (ap (λ b. if b then digits_value 10 ds else 0) no)

-- a text whose number lies between two others
pub ranged_number : (t : List ℕ) (low high : ℕ) → IsUnsignedIn low high t → (low ≤ number_of (Some t)) × (number_of (Some t) ≤ high)
ranged_number t low high h =
    let is = read_number t (digits_value 10 (without_leading_plus t)) ((h.0, h.1), refl) in
    (subst (λ n. low ≤ n) is h.2, subst (λ n. n ≤ high) is h.3)
