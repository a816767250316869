-- Output in pieces, through a buffer: what a sink took and what waits to be written.
use Rattle.std.specs.Prelude.{◌≡◌, ℕ, zero, suc, ◌+◌, ◌-◌, ◌%◌, ◌^◌, List, [], ◌∷◌, ◌++◌, length, replicate, drop, Option, Some, None, unwrap_or, Result, OnOk, OnErr, IfOk, IfSome}
use Rattle.std.specs.Io.KnownBytes.{Appends}
use Rattle.lg_io.specs.Counts.{HasCause}
use Rattle.lg_io.specs.Wrote.{AppendsPrefix}
use Rattle.lg_host.specs.Runs.{Bytes}
use Rattle.lg_host.specs.Printed.{Effect}
use Rattle.lg_host.specs.declared.parts.Part.{Part}
use Rattle.lg_host.specs.declared.parts.Part.TheVariants as part
use Rattle.lg_host.specs.declared.format_place.FormatPlace.{FormatPlace}

-- this many bytes from an address on
abbrev pub bytes_from : ℕ → Bytes → ℕ → List ℕ
bytes_from zero m a = []
bytes_from (suc n) m a = unwrap_or (m a) 0 ∷ bytes_from n m (a + 1)

abbrev pub part_bytes : Bytes → Part → List ℕ
part_bytes m (part.Bytes bytes) = bytes.now
part_bytes m (part.Fill byte count) = replicate count byte
part_bytes m (part.Text from to) = bytes_from (to - from) m from

abbrev pub parts_bytes : Bytes → List Part → List ℕ
parts_bytes m [] = []
parts_bytes m (p ∷ ps) = part_bytes m p ++ parts_bytes m ps

-- what the sink says of the bytes that it took, the bytes that wait in the buffer, and the sink's count of faults
pub record Output : Type 0 where
  pub taken : Option (List ℕ)
  pub waiting : List ℕ
  pub faults : ℕ

abbrev pub output : Option (List ℕ) → List ℕ → ℕ → Output
output taken waiting faults = record { taken = taken; waiting = waiting; faults = faults }

-- the bytes went after those that wait, the first ones of which went to the sink
abbrev pub PassesOn : Output → Output → List ℕ → Type 0
PassesOn old new bytes = (sent : List ℕ) × Appends old.taken new.taken sent × (old.waiting ++ bytes ≡ sent ++ new.waiting)

-- at Ok the bytes were passed on; at Err some of those that waited and of these went to the sink, from the first one on
pub record Passed {T E : Type 0} (old new : Output) (result : Result T E) (bytes : List ℕ) : Type 0 where
  pub ok : OnOk result (PassesOn old new bytes)
  pub err : OnErr result (AppendsPrefix old.taken new.taken (old.waiting ++ bytes))
  pub cause : HasCause old.faults new.faults result

-- ---- bytes that may be undefined
-- the answer is None where they are, and else their number modulo 2^64
abbrev pub IsTold : Option (List ℕ) → Output → Output → Option ℕ → Type 0
IsTold None old new answer = answer ≡ None
IsTold (Some bytes) old new answer = (answer ≡ Some (length bytes % 2 ^ 64)) × PassesOn old new bytes

pub record Told {E : Type 0} (bytes : Option (List ℕ)) (old new : Output) (result : Result (Option ℕ) E) : Type 0 where
  pub ok : IfOk result (IsTold bytes old new)
  pub err : OnErr result (IfSome bytes (λ all. AppendsPrefix old.taken new.taken (old.waiting ++ all)))
  pub cause : HasCause old.faults new.faults result

-- the same of bytes none of which waits before or after
abbrev pub IsWritten : Option (List ℕ) → Option (List ℕ) → Option (List ℕ) → Option ℕ → Type 0
IsWritten None old new answer = answer ≡ None
IsWritten (Some bytes) old new answer = (answer ≡ Some (length bytes % 2 ^ 64)) × Appends old new bytes

pub record Prints {E : Type 0} (bytes old new : Option (List ℕ)) (before now : ℕ) (result : Result (Option ℕ) E) : Type 0 where
  pub ok : IfOk result (IsWritten bytes old new)
  pub err : OnErr result (IfSome bytes (AppendsPrefix old new))
  pub cause : HasCause before now result

-- ---- one byte of a format
abbrev pub IsAfter : Option Effect → ℕ → List ℕ → Output → Output → Option FormatPlace → Type 0
IsAfter None count args old new None = Unit {0}
IsAfter None count args old new (Some place) = ⊥
IsAfter (Some effect) count args old new None = ⊥
IsAfter (Some effect) count args old new (Some place) =
    (place.reading ≡ effect.reading) × (drop place.used args ≡ effect.left) × (place.count ≡ (count + length effect.bytes) % 2 ^ 64)
    × PassesOn old new effect.bytes

-- the effect of one byte of the format, where it is defined
pub record Steps {E : Type 0} (effect : Option Effect) (count : ℕ) (args : List ℕ) (old new : Output) (result : Result (Option FormatPlace) E) : Type 0 where
  pub ok : IfOk result (IsAfter effect count args old new)
  pub err : OnErr result (IfSome effect (λ e. AppendsPrefix old.taken new.taken (old.waiting ++ e.bytes)))
  pub cause : HasCause old.faults new.faults result
