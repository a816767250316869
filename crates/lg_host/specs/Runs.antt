-- The bytes that can be read from an address on.
use Rattle.std.specs.Prelude.{ℕ, zero, suc, ◌+◌, ◌-◌, ◌^◌, List, [], ◌∷◌, Option, Some, None}

-- bytes by their addresses; one that can't be read is None
abbrev pub Bytes : Type 0
Bytes = ℕ → Option ℕ

-- addresses are words: one more than the largest
abbrev pub address_end : ℕ
address_end = 2 ^ 64

-- a byte before others, none of which counts where the byte can't be read
abbrev pub before : Option ℕ → List ℕ → List ℕ
before None bytes = []
before (Some byte) bytes = byte ∷ bytes

-- at most this many bytes from an address on, up to the first that can't be read
unfoldable pub run_of : ℕ → Bytes → ℕ → List ℕ
run_of zero m a = []
run_of (suc n) m a = before (m a) (run_of n m (a + 1))

-- the bytes from an address on, up to the first that can't be read
abbrev pub run : Bytes → ℕ → List ℕ
run m a = run_of (address_end - a) m a
