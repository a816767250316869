-- Strings of C, how two of them compare, and the numbers that they spell, on the bytes that can be read.
use Rattle.std.specs.Prelude.{ℕ, ◌+◌, ◌-◌, ◌*◌, ◌^◌, ◌==◌, ◌&&◌, ◌||◌, Bool, true, false, nat_lt, nat_le, List, [], ◌∷◌, Option, Some, None, if◌then◌else◌}
use Rattle.std.specs.Option.{option_map}

-- the bytes before the first zero byte, which must be among those that can be read
abbrev pub string_in : List ℕ → Option (List ℕ)
string_in [] = None
string_in (b ∷ bs) = if b == 0 then Some [] else option_map (λ string. b ∷ string) (string_in bs)

-- -1, 0 or 1 by the first bytes that differ, as words; both strings are read up to there, or to their ends
abbrev pub compared : List ℕ → List ℕ → Option ℕ
compared [] ys = None
compared (x ∷ xs) [] = None
compared (x ∷ xs) (y ∷ ys) = if nat_lt x y then Some (2 ^ 64 - 1) else if nat_lt y x then Some 1 else if x == 0 then Some 0 else compared xs ys

-- space, tab, line feed, vertical tab, form feed and carriage return
abbrev pub is_space : ℕ → Bool
is_space b = b == 32 || (nat_le 9 b && nat_le b 13)

abbrev pub is_digit : ℕ → Bool
is_digit b = nat_le 48 b && nat_le b 57

-- an int by its sign and magnitude, as a word; None where it is none
abbrev pub int_word : Bool → ℕ → Option ℕ
int_word negative n = if negative then (if nat_le n (2 ^ 31) then Some (if n == 0 then 0 else 2 ^ 64 - n) else None)
    else (if nat_lt n (2 ^ 31) then Some n else None)

-- the number so far and the digits up to the first other byte, which must be one that can be read
abbrev pub number_in : Bool → ℕ → List ℕ → Option ℕ
number_in negative n [] = None
number_in negative n (b ∷ bs) = if is_digit b then number_in negative (n * 10 + (b - 48)) bs else int_word negative n

-- `-` or `+`, if one is there, and a number
abbrev pub signed_in : List ℕ → Option ℕ
signed_in [] = None
signed_in (b ∷ bs) = if b == 45 then number_in true 0 bs else if b == 43 then number_in false 0 bs else number_in false 0 (b ∷ bs)

-- white space, and then a number with its sign
abbrev pub atoi_in : List ℕ → Option ℕ
atoi_in [] = None
atoi_in (b ∷ bs) = if is_space b then atoi_in bs else signed_in (b ∷ bs)
