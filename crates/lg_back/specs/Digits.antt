-- Hexadecimal digits, read back.
use Rattle.std.specs.Prelude.{ℕ, ◌+◌, ◌-◌, ◌*◌, ◌&&◌, nat_le, if◌then◌else◌, List, [], ◌∷◌, Option, Some, None}
use Rattle.std.specs.Option.{option_map}

-- the value of a lower hexadecimal digit
abbrev pub digit_value : ℕ → Option ℕ
digit_value c = if nat_le 48 c && nat_le c 57 then Some (c - 48) else (if nat_le 97 c && nat_le c 102 then Some (c - 87) else None)

-- the byte that two digits spell
abbrev pub with_low : Option ℕ → ℕ → Option ℕ
with_low None low = None
with_low (Some high) low = option_map (λ l. high * 16 + l) (digit_value low)

abbrev pub byte_value : ℕ → ℕ → Option ℕ
byte_value high low = with_low (digit_value high) low

-- the bytes that a text begins with, two digits each, as far as there are any
abbrev pub before_rest : Option ℕ → List ℕ → List ℕ
before_rest None bytes = []
before_rest (Some b) bytes = b ∷ bytes

abbrev pub hex_front : List ℕ → List ℕ
hex_front [] = []
hex_front (h ∷ []) = []
hex_front (h ∷ l ∷ rest) = before_rest (byte_value h l) (hex_front rest)
