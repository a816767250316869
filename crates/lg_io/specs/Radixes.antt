-- The digits that a number is written in.
use Rattle.std.specs.Prelude.{ℕ, Bool, true, false, List}
use Rattle.std.specs.Fmt.{digits}
use Rattle.lg_io.specs.declared.digits.Radix.{Radix}
use Rattle.lg_io.specs.declared.digits.Radix.TheVariants.{Octal, Decimal, Hexadecimal, UpperHexadecimal}

abbrev pub base_of : Radix → ℕ
base_of Octal = 8
base_of Decimal = 10
base_of Hexadecimal = 16
base_of UpperHexadecimal = 16

-- whether the digits above 9 are capital letters
abbrev pub has_capitals : Radix → Bool
has_capitals Octal = false
has_capitals Decimal = false
has_capitals Hexadecimal = false
has_capitals UpperHexadecimal = true

-- the digits of a number, without leading zeros
abbrev pub digits_in : Radix → ℕ → List ℕ
digits_in radix number = digits (base_of radix) (has_capitals radix) number
