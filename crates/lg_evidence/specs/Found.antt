-- What a table finds in front of bytes.
use Rattle.std.specs.Prelude.{◌≡◌, ℕ, List, ◌++◌, length, string_bytes}
use Rattle.lg_evidence.specs.declared.table.Found.{Found}

-- the instruction's bytes are those in front, and it is as long as they are
abbrev pub StandsInFront : List ℕ → Found → Type 0
StandsInFront bytes found = (found.length ≡ length found.spelling) × (more : List ℕ) × (bytes ≡ found.spelling ++ more)

-- what was found is the operation of this name, of these bytes and no others
abbrev pub IsAsWanted : Found → List ℕ → List ℕ → Type 0
IsAsWanted found name bytes = (string_bytes found.operation ≡ name) × (found.length ≡ length bytes) × (found.spelling ≡ bytes)
