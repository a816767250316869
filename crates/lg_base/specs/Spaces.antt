-- Bytes by their addresses: what can be read is a function from addresses to bytes, absent where nothing
-- can be read, and what can be written is a test of addresses.
use Rattle.std.specs.Prelude.{◌≡◌, ℕ, zero, suc, ◌+◌, ◌*◌, ◌/◌, ◌%◌, ◌<◌, ◌==◌, ◌&&◌, ◌||◌, Bool, true, nat_lt, nat_le, List, length, slice_index, Option, Some, None, is_some, unwrap_or, if◌then◌else◌}

-- the bytes with one written
abbrev pub put_some : (ℕ → Option ℕ) → ℕ → ℕ → ℕ → Option ℕ
put_some bytes address byte a = if a == address then Some byte else bytes a

-- whether an address is one of the heap below a mark
abbrev pub in_heap : ℕ → ℕ → Bool
in_heap mark a = nat_le 0x30000000 a && nat_lt a mark

-- the heap below the mark can be written besides
abbrev pub raised : (ℕ → Bool) → ℕ → ℕ → Bool
raised room mark a = room a || in_heap mark a

-- whether the byte at an address can be read
abbrev pub readable : (ℕ → Option ℕ) → ℕ → Bool
readable bytes a = is_some (bytes a)

-- whether each of width bytes from an address on can be read
unfoldable pub mapped : (ℕ → Option ℕ) → ℕ → ℕ → Bool
mapped bytes address zero = true
mapped bytes address (suc width) = is_some (bytes address) && mapped bytes (address + 1) width

-- a list has the bytes of len addresses from one on
abbrev pub HasBytes : (ℕ → Option ℕ) → (address len : ℕ) → List ℕ → Type 0
HasBytes bytes address len list = (length list ≡ len) × ((k : ℕ) → k < len → bytes (address + k) ≡ Some (slice_index list k))

-- the number of width bytes from a place on, the lowest byte first
unfoldable pub number_at : (ℕ → ℕ) → ℕ → ℕ → ℕ
number_at bytes at zero = 0
number_at bytes at (suc width) = bytes at + 256 * number_at bytes (at + 1) width

-- the byte at an address, or 0
abbrev pub byte_or_zero : (ℕ → Option ℕ) → ℕ → ℕ
byte_or_zero bytes a = unwrap_or (bytes a) 0

-- what width bytes from an address on hold, where all of them can be read
abbrev pub loaded : (ℕ → Option ℕ) → ℕ → ℕ → Option ℕ
loaded bytes address width = if mapped bytes address width then Some (number_at (byte_or_zero bytes) address width) else None

-- the bytes with the low bytes of a number written from an address on, the lowest byte first
unfoldable pub stored : (ℕ → Option ℕ) → ℕ → ℕ → ℕ → ℕ → Option ℕ
stored bytes address zero value = bytes
stored bytes address (suc width) value = stored (put_some bytes address (value % 256)) (address + 1) width (value / 256)

-- numbers by their places, with one changed
abbrev pub with_byte : (ℕ → ℕ) → ℕ → ℕ → ℕ → ℕ
with_byte bytes at byte i = if i == at then byte else bytes i

-- the same for bytes that are all there
unfoldable pub written : (ℕ → ℕ) → ℕ → ℕ → ℕ → ℕ → ℕ
written bytes at zero value = bytes
written bytes at (suc width) value = written (with_byte bytes at (value % 256)) (at + 1) width (value / 256)
