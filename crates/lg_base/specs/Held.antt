-- Parts of the memory: only the bytes up to the last one that was stored are held: the others are 0.
use Rattle.std.specs.Prelude.{ℕ, ◌-◌, List, ◌++◌, length, replicate, reverse, nat_lt, if◌then◌else◌}

-- a part of a size whose first bytes are held, in their order
unfoldable pub from_front : ℕ → List ℕ → List ℕ
from_front size held = held ++ replicate (size - length held) 0

-- a part of a size whose last bytes are held, the last one first
unfoldable pub from_end : ℕ → List ℕ → List ℕ
from_end size held = reverse (held ++ replicate (size - length held) 0)

-- numbers by their places, counted from the last place of a size
abbrev pub turned : ℕ → (ℕ → ℕ) → ℕ → ℕ
turned size bytes i = if nat_lt i size then bytes (size - 1 - i) else 0
