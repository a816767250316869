-- The format of printf, read byte by byte: bytes that denote themselves, and conversions. The bytes are numbers of
-- ASCII: 37 is `%`, 45 `-`, 48 to 57 the digits, 88 `X`, 99 `c`, 100 `d`, 104 `h`, 105 `i`, 108 `l`, 111 `o`, 112 `p`,
-- 115 `s`, 117 `u`, 120 `x`.
use Rattle.std.specs.Prelude.{ℕ, ◌+◌, ◌-◌, ◌*◌, ◌==◌, ◌||◌, Bool, true, false, nat_le, if◌then◌else◌}
use Rattle.lg_io.specs.declared.digits.Radix.TheVariants as radix
use Rattle.lg_host.specs.Strings.{is_digit}
use Rattle.lg_host.specs.declared.format.Style.{Style}
use Rattle.lg_host.specs.declared.format.Size.{Size}
use Rattle.lg_host.specs.declared.format.Size.TheVariants as size
use Rattle.lg_host.specs.declared.format.Kind.{Kind}
use Rattle.lg_host.specs.declared.format.Kind.TheVariants as kind
use Rattle.lg_host.specs.declared.format.Reading.{Reading}
use Rattle.lg_host.specs.declared.format.Reading.TheVariants as reading
use Rattle.lg_host.specs.declared.format.Next.{Next}
use Rattle.lg_host.specs.declared.format.Next.TheVariants as next

-- d i u x X o, which take a length
abbrev pub number_letter : Style → Size → ℕ → Next
number_letter style size b =
    if b == 100 || b == 105 then next.Converts style (kind.Signed size)
    else if b == 117 then next.Converts style (kind.Unsigned radix.Decimal size)
    else if b == 120 then next.Converts style (kind.Unsigned radix.Hexadecimal size)
    else if b == 88 then next.Converts style (kind.Unsigned radix.UpperHexadecimal size)
    else if b == 111 then next.Converts style (kind.Unsigned radix.Octal size)
    else next.Wrong

-- c s p have no flag 0
abbrev pub without_zeros : Style → Kind → Next
without_zeros style kind = if style.zero then next.Wrong else next.Converts style kind

abbrev pub any_letter : Style → ℕ → Next
any_letter style b =
    if b == 99 then without_zeros style kind.Character
    else if b == 115 then without_zeros style kind.Text
    else if b == 112 then without_zeros style kind.Pointer
    else number_letter style size.Int b

abbrev pub at_length : Style → ℕ → Next
at_length style b =
    if b == 104 then next.Reads (reading.Half style)
    else if b == 108 then next.Reads (reading.Longer style)
    else any_letter style b

abbrev pub with_digit : Style → ℕ → Style
with_digit style b = record { left = style.left; zero = style.zero; width = style.width * 10 + (b - 48) }

-- a width is at most 4,095
abbrev pub at_width : Style → ℕ → Next
at_width style b =
    if is_digit b
    then (if nat_le (style.width * 10 + (b - 48)) 4095 then next.Reads (reading.Width (with_digit style b)) else next.Wrong)
    else at_length style b

abbrev pub at_flags : Style → ℕ → Next
at_flags style b =
    if b == 45 then next.Reads (reading.Flags record { left = true; zero = style.zero; width = style.width })
    else if b == 48 then next.Reads (reading.Flags record { left = style.left; zero = true; width = style.width })
    else at_width style b

-- no flags and no width
abbrev pub plain_style : Style
plain_style = record { left = false; zero = false; width = 0 }

-- what a byte of a format means, by what came before it
abbrev pub next_of : Reading → ℕ → Next
next_of reading.Plain b = if b == 37 then next.Reads reading.Start else next.Puts b
next_of reading.Start b = if b == 37 then next.Puts 37 else at_flags plain_style b
next_of (reading.Flags style) b = at_flags style b
next_of (reading.Width style) b = at_width style b
next_of (reading.Half style) b = if b == 104 then next.Reads (reading.Sized style size.Byte) else number_letter style size.Short b
next_of (reading.Longer style) b = if b == 108 then next.Reads (reading.Sized style size.Long) else number_letter style size.Long b
next_of (reading.Sized style size) b = number_letter style size b

-- whether a format may end there
abbrev pub is_plain : Reading → Bool
is_plain reading.Plain = true
is_plain r = false
