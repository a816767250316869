-- Ranges of bytes that are copied and filled.
use Rattle.std.specs.Prelude.{ℕ, zero, suc, ◌+◌, ◌-◌, ◌&&◌, Bool, true, nat_lt, nat_le, Option, Some, None, is_some, if◌then◌else◌}
use Rattle.lg_host.specs.Runs.{Bytes, address_end}

-- bytes that are written, by their addresses; None where nothing is written
abbrev pub Changes : Type 0
Changes = ℕ → Option ℕ

-- nothing is written
abbrev pub unchanged : Changes
unchanged a = None

-- the bytes with those that are written
abbrev pub over : Changes → Bytes → Bytes
over changes bytes a = if is_some (changes a) then changes a else bytes a

-- whether an address is one of n from another on
abbrev pub in_range : ℕ → ℕ → ℕ → Bool
in_range from count a = nat_le from a && nat_lt a (from + count)

-- this many bytes copied to a place from another
abbrev pub copied : Bytes → ℕ → ℕ → ℕ → Changes
copied bytes to from count a = if in_range to count a then bytes (from + (a - to)) else None

-- this many bytes set from a place on
abbrev pub filled : ℕ → ℕ → ℕ → Changes
filled to byte count a = if in_range to count a then Some byte else None

-- whether each of n addresses can be written
unfoldable pub can_write : (ℕ → Bool) → ℕ → ℕ → Bool
can_write room from zero = true
can_write room from (suc count) = room from && can_write room (from + 1) count

-- whether this many bytes from an address on have addresses
abbrev pub is_addressed : ℕ → ℕ → Bool
is_addressed from count = nat_le (from + count) address_end

-- whether the distance of two addresses is below a number
abbrev pub overlaps : ℕ → ℕ → ℕ → Bool
overlaps to from count = nat_lt (if nat_le to from then from - to else to - from) count
