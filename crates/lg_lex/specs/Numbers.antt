-- Numbers: decimal digits, 0x with hexadecimal digits, or 0 with octal digits, and up to three letters of u U l L after them.
use Rattle.std.specs.Prelude.{ℕ, ◌+◌, ◌-◌, ◌*◌, ◌%◌, ◌^◌, ◌==◌, nat_lt, if◌then◌else◌, ◌||◌, List, take, drop, slice_index, fold, Option, Some, None, option_map, option_and_then}
use Rattle.std.specs.Char.{digit_value, is_digit, is_ascii_alphanumeric}
use Rattle.std.specs.List.{prefix_len}
use Rattle.lg_lex.specs.Bytes.{is_suffix_letter}
use Rattle.lg_lex.specs.declared.numbers.Literal.{Literal}

-- the value of digits, the first one the highest
abbrev pub with_digit : ℕ → ℕ → ℕ → ℕ
with_digit radix n b = n * radix + digit_value b

abbrev pub digits_value : ℕ → List ℕ → ℕ
digits_value radix digits = fold (with_digit radix) 0 digits

-- a number of at most 64 bits
unfoldable pub narrowed : ℕ → Option ℕ
narrowed n = if nat_lt n (2 ^ 64) then Some n else None

-- the same with n bytes more in front
abbrev pub longer : ℕ → Literal → Literal
longer n literal = record { len = n + literal.len; value = literal.value }

-- one or more digits of a radix
unfoldable pub digits_at : ℕ → List ℕ → Option Literal
digits_at radix bytes = let n = prefix_len (λ b. is_digit b radix) bytes in
    if n == 0 then None else option_map (λ value. record { len = n; value = value }) (narrowed (digits_value radix (take n bytes)))

-- digits with their prefix
unfoldable pub magnitude_at : List ℕ → Option Literal
magnitude_at bytes =
    if slice_index bytes 0 == 48 then (if slice_index bytes 1 == 120 then option_map (longer 2) (digits_at 16 (drop 2 bytes)) else digits_at 8 bytes)
    else digits_at 10 bytes

-- at most three suffix letters, with no letter or digit after them
unfoldable pub suffix_at : List ℕ → Option ℕ
suffix_at bytes = let n = prefix_len is_suffix_letter bytes in
    if nat_lt 3 n || is_ascii_alphanumeric (slice_index bytes n) then None else Some n

-- a number without a sign
unfoldable pub unsigned_at : List ℕ → Option Literal
unsigned_at bytes = option_and_then
    (λ digits. option_map (λ n. record { len = digits.len + n; value = digits.value }) (suffix_at (drop digits.len bytes)))
    (magnitude_at bytes)

-- the number after a -, as a word: at most 2^63
unfoldable pub negated : Literal → Option Literal
negated literal =
    if nat_lt (2 ^ 63) literal.value then None else Some (record { len = 1 + literal.len; value = (2 ^ 64 - literal.value) % 2 ^ 64 })

-- a number with an optional sign directly before it
unfoldable pub number_at : List ℕ → Option Literal
number_at bytes =
    if slice_index bytes 0 == 45 then option_and_then negated (unsigned_at (drop 1 bytes))
    else (if slice_index bytes 0 == 43 then option_map (longer 1) (unsigned_at (drop 1 bytes)) else unsigned_at bytes)
