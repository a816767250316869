-- Double words, and parts of words by their number of bytes.
use Rattle.std.specs.Prelude.{ℕ, ℤ, ◌+◌, ◌-◌, ◌*◌, ◌/◌, ◌%◌, ◌^◌, ◌==◌, ◌||◌, Bool, nat_lt, nat_le, Option, Some, None, if◌then◌else◌}
use Rattle.std.specs.Int.{cast_unsigned, w64}
use Rattle.std.specs.Option.{option_map}
use Rattle.lg_base.specs.Words.{is_negative, differ, magnitude, with_sign}

-- one more than the largest number of this many bytes, which are 1, 2, 4 or 8
abbrev pub span : ℕ → ℕ
span bytes = if bytes == 1 then 2 ^ 8 else if bytes == 2 then 2 ^ 16 else if bytes == 4 then 2 ^ 32 else 2 ^ 64

-- the low bytes, the others 0
abbrev pub zero_part_of : ℕ → ℕ → ℕ
zero_part_of value bytes = value % span bytes

-- the low bytes with their sign
abbrev pub sign_part_of : ℕ → ℕ → ℕ
sign_part_of value bytes = let low = value % span bytes in if nat_lt (2 * low) (span bytes) then low else low + (2 ^ 64 - span bytes)

-- the byte at a place, the lowest of which is 0
abbrev pub byte_of : ℕ → ℕ → ℕ
byte_of value place = value / 256 ^ place % 256

-- the low bytes in the other order, the others 0
abbrev pub swapped : ℕ → ℕ → ℕ
swapped value bytes =
    if bytes == 1 then byte_of value 0
    else if bytes == 2 then byte_of value 0 * 256 + byte_of value 1
    else if bytes == 4 then ((byte_of value 0 * 256 + byte_of value 1) * 256 + byte_of value 2) * 256 + byte_of value 3
    else ((((((byte_of value 0 * 256 + byte_of value 1) * 256 + byte_of value 2) * 256 + byte_of value 3) * 256 + byte_of value 4) * 256
    + byte_of value 5) * 256 + byte_of value 6) * 256 + byte_of value 7

-- quotient and remainder of an unsigned double word by a word, where the quotient is a word
abbrev pub quotient_wide : ℕ → ℕ → ℕ → Option (ℕ × ℕ)
quotient_wide high low by = if (by == 0) || nat_le by high then None else Some ((high * 2 ^ 64 + low) / by, (high * 2 ^ 64 + low) % by)

-- the size of a signed double word
abbrev pub wide_magnitude : ℕ → ℕ → ℕ
wide_magnitude high low = if nat_lt high (2 ^ 63) then high * 2 ^ 64 + low else 2 ^ 128 - (high * 2 ^ 64 + low)

-- whether a quotient of this size and sign is a signed word
abbrev pub fits_signed : Bool → ℕ → Bool
fits_signed negative size = if negative then nat_le size (2 ^ 63) else nat_lt size (2 ^ 63)

-- quotient towards zero, and remainder with the dividend's sign, of a signed double word by a signed word
abbrev pub quotient_wide_signed : ℕ → ℕ → ℕ → Option (ℕ × ℕ)
quotient_wide_signed high low by =
    let size = wide_magnitude high low in
    let divisor = magnitude by in
    let negative = differ (is_negative high) (is_negative by) in
    if by == 0 then None
    else if fits_signed negative (size / divisor) then Some (with_sign negative (size / divisor), with_sign (is_negative high) (size % divisor))
    else None

-- two signed words by their bits
abbrev pub as_words : Option (ℤ × ℤ) → Option (ℕ × ℕ)
as_words = option_map (λ p. (cast_unsigned w64 p.0, cast_unsigned w64 p.1))
