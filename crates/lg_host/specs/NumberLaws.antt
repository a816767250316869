-- What number `atoi` reads, in the words of the C standard (7.22.1.4, `strtol` to the base 10): white space, a sign or none, digits, and the first byte
-- that is no digit.
use Rattle.std.specs.Prelude.{◌≡◌, ◌⊎◌, ℕ, ◌^◌, ◌<◌, Bool, true, false, List, [], ◌∷◌, ◌++◌, Some}
use Rattle.std.specs.List.{AllByRecursion}
use Rattle.std.specs.Str.Parse.{IsNumeral, digits_value}
use Rattle.lg_io.specs.Radixes.{digits_in}
use Rattle.lg_io.specs.declared.digits.Radix.TheVariants.{Decimal}
use Rattle.lg_host.specs.Strings.{is_space, is_digit, int_word, atoi_in}

-- no sign, `+` or `-`, and whether the number is negative
abbrev pub IsSign : Bool → List ℕ → Type 0
IsSign negative sign = ((sign ≡ []) × (negative ≡ false)) ⊎ (((sign ≡ 43 ∷ []) × (negative ≡ false)) ⊎ ((sign ≡ 45 ∷ []) × (negative ≡ true)))

-- the value of the digits with the sign is what is read, as far as it is an int
abbrev pub ReadsItsDigits : Type 0
ReadsItsDigits = (spaces sign digits rest : List ℕ) (negative : Bool) (b : ℕ)
    → AllByRecursion (λ s. is_space s ≡ true) spaces → IsSign negative sign → IsNumeral 10 digits → is_digit b ≡ false
    → atoi_in (spaces ++ (sign ++ (digits ++ b ∷ rest))) ≡ int_word negative (digits_value 10 digits)

-- what `printf` writes of an int that is not negative is read back
abbrev pub ReadsWhatIsPrinted : Type 0
ReadsWhatIsPrinted = (n b : ℕ) (rest : List ℕ) → n < 2 ^ 31 → is_digit b ≡ false → atoi_in (digits_in Decimal n ++ b ∷ rest) ≡ Some n
