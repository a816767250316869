-- Characters and strings: their bytes and escapes.
use Rattle.std.specs.Prelude.{ℕ, zero, suc, ◌+◌, ◌==◌, nat_lt, max, if◌then◌else◌, List, [], ◌∷◌, length, take, drop, slice_index, Option, Some, None, option_map, option_and_then}
use Rattle.std.specs.Char.{is_digit}
use Rattle.std.specs.List.{prefix_len}
use Rattle.std.specs.Option.{option_map_or}
use Rattle.lg_lex.specs.Bytes.{further}
use Rattle.lg_lex.specs.Numbers.{digits_value}
use Rattle.lg_lex.specs.declared.numbers.Literal.{Literal}
use Rattle.lg_lex.specs.declared.escapes.TextByte.{TextByte}

-- the byte that one letter or mark after \ denotes: n t r a b f v \ ' "
abbrev pub letter_escape : ℕ → Option ℕ
letter_escape b =
    if b == 110 then Some 10 else (if b == 116 then Some 9 else (if b == 114 then Some 13 else (if b == 97 then Some 7
    else (if b == 98 then Some 8 else (if b == 102 then Some 12 else (if b == 118 then Some 11
    else (if b == 92 then Some 92 else (if b == 39 then Some 39 else (if b == 34 then Some 34 else None)))))))))

-- the value of digits, at most 255
unfoldable pub byte_value : ℕ → List ℕ → Option ℕ
byte_value radix digits = let value = digits_value radix digits in if nat_lt value 256 then Some value else None

-- at least one and at most this many digits of a radix, of value at most 255
unfoldable pub digits_escape : ℕ → ℕ → List ℕ → Option TextByte
digits_escape radix most bytes = let n = prefix_len (λ b. is_digit b radix) (take most bytes) in
    if n == 0 then None else option_map (λ byte. record { len = n; byte = byte }) (byte_value radix (take n bytes))

-- the same byte with n bytes more in front
abbrev pub after_mark : ℕ → TextByte → TextByte
after_mark n found = record { len = n + found.len; byte = found.byte }

-- an escape, from the byte after \ on: up to three octal digits, x and up to two hexadecimal digits, or a letter
unfoldable pub escape_at : List ℕ → Option TextByte
escape_at bytes = let b = slice_index bytes 0 in
    if is_digit b 8 then digits_escape 8 3 bytes
    else (if b == 120 then option_map (after_mark 1) (digits_escape 16 2 (drop 1 bytes))
    else option_map (λ byte. record { len = 1; byte = byte }) (letter_escape b))

-- one byte or one escape; a line feed is neither
unfoldable pub text_byte_at : List ℕ → Option TextByte
text_byte_at bytes = let b = slice_index bytes 0 in
    if length bytes == 0 then None
    else (if b == 92 then option_map (after_mark 1) (escape_at (drop 1 bytes))
    else (if b == 10 then None else Some (record { len = 1; byte = b })))

-- the end of a character: the closing quote after its byte
unfoldable pub character_end : List ℕ → TextByte → Option Literal
character_end bytes found =
    if slice_index bytes (1 + found.len) == 39 then Some (record { len = 2 + found.len; value = found.byte }) else None

-- a character, from its opening quote on
unfoldable pub character_at : List ℕ → Option Literal
character_at bytes = if slice_index bytes 1 == 39 then None else option_and_then (character_end bytes) (text_byte_at (drop 1 bytes))

-- how many bytes of a string come from here to its closing quote, that included; of at most this many bytes and escapes
unfoldable pub string_rest : ℕ → List ℕ → Option ℕ
string_rest zero bytes = None
string_rest (suc k) bytes =
    if slice_index bytes 0 == 34 then Some 1
    else option_and_then (λ found. further found.len (string_rest k (drop found.len bytes))) (text_byte_at bytes)

-- the length of a string, from its opening quote on
unfoldable pub string_at : List ℕ → Option ℕ
string_at bytes = further 1 (string_rest (length bytes) (drop 1 bytes))

-- the bytes of a string from here to its closing quote, or to where it is malformed; at most this many
unfoldable pub string_values : ℕ → List ℕ → List ℕ
string_values zero bytes = []
string_values (suc k) bytes =
    if slice_index bytes 0 == 34 then []
    else option_map_or (λ found. found.byte ∷ string_values k (drop found.len bytes)) (text_byte_at bytes) []

-- the bytes of a string token that come at a place of it and after; the place 0 is its quote
unfoldable pub string_left : List ℕ → ℕ → List ℕ
string_left token place = string_values (length token) (drop (max 1 place) token)
