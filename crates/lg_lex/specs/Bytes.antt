-- The classes of bytes.
use Rattle.std.specs.Prelude.{ℕ, ◌+◌, Bool, ◌||◌, ◌==◌, not, Option, option_map}
use Rattle.std.specs.Int.{is_in_range}

-- space, tab, line feed, vertical tab, form feed, carriage return
abbrev pub is_space : ℕ → Bool
is_space b = (b == 32) || is_in_range 9 13 b

-- a letter of u U l L
abbrev pub is_suffix_letter : ℕ → Bool
is_suffix_letter b = ((b == 117) || (b == 85)) || ((b == 108) || (b == 76))

-- a byte that does not end a line
abbrev pub is_in_line : ℕ → Bool
is_in_line b = not (b == 10)

-- a length, with n bytes more in front
abbrev pub further : ℕ → Option ℕ → Option ℕ
further n rest = option_map (λ m. n + m) rest
