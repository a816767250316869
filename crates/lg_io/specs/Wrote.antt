-- What a write of bytes leaves in a sink. Where the sink does not show its bytes, nothing is said of them.
use Rattle.std.specs.Prelude.{ℕ, ◌<◌, List, [], ◌∷◌, ◌++◌, length, take, Option, Result, OnOk, OnErr}
use Rattle.std.specs.Borrow.{Bor}
use Rattle.std.specs.Io.KnownBytes.{Appends}
use Rattle.lg_io.specs.Counts.{HasCause}

-- some of the bytes were appended, from the first one on, and not all; so there were some
abbrev pub AppendsPrefix : Option (List ℕ) → Option (List ℕ) → List ℕ → Type 0
AppendsPrefix old new bytes = (n : ℕ) × (n < length bytes) × Appends old new (take n bytes)

-- at Ok all the bytes were appended; at Err some of them were, from the first one on, and not all, and the count of faults rose. No bytes are written
-- without a fault
pub record Wrote {T E : Type 0} (old new : Option (List ℕ)) (before now : ℕ) (result : Result T E) (bytes : List ℕ) : Type 0 where
  pub ok : OnOk result (Appends old new bytes)
  pub err : OnErr result (AppendsPrefix old new bytes)
  pub cause : HasCause before now result

-- pieces of a line in a row
abbrev pub row : List (List ℕ) → List ℕ
row [] = []
row (piece ∷ pieces) = piece ++ row pieces

-- the same of pieces that are borrowed
abbrev pub joined : List (Bor (List ℕ)) → List ℕ
joined [] = []
joined (piece ∷ pieces) = piece.now ++ joined pieces
