-- Instruction words of 32 bits in a list of bytes, the lowest byte first.
use Rattle.std.specs.Prelude.{ℕ, ◌+◌, ◌*◌, List, Option, None, length, take, nat_lt, slice_index, if◌then◌else◌}
use Rattle.std.specs.Option.{option_map}
use Rattle.std.specs.Int.{w32, from_le_bytes}

-- the word whose lowest byte is at a place
abbrev pub word_at : List ℕ → ℕ → ℕ
word_at bytes place = slice_index bytes place + 256 * slice_index bytes (place + 1) + 65536 * slice_index bytes (place + 2)
    + 16777216 * slice_index bytes (place + 3)

-- what the first word of the bytes reads as, and its length
unfoldable pub word_front : {I : Type 0} → (ℕ → Option I) → List ℕ → Option (I × ℕ)
word_front read bytes = if nat_lt (length bytes) 4 then None else option_map (λ i. (i, 4)) (read (from_le_bytes w32 (take 4 bytes)))
