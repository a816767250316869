-- What a call leaves of a sink that it is given.
use Rattle.std.specs.Prelude.{ℕ, List, Option, Result}
use Rattle.std.specs.Io.KnownBytes.{Appends}
use Rattle.lg_io.specs.Wrote.{AppendsPrefix, Wrote}

-- the bytes that a sink has taken, where it shows them, and its count of faults, before and after
pub record SinkChange : Type 0 where
  pub taken : Option (List ℕ)
  pub taken' : Option (List ℕ)
  pub faults : ℕ
  pub faults' : ℕ

abbrev pub on_sink : {S : Type 0} → (S → Option (List ℕ)) → (S → ℕ) → S → S → SinkChange
on_sink taken faults old new = record { taken = taken old; taken' = taken new; faults = faults old; faults' = faults new }

-- a sink took these bytes
abbrev pub Took : SinkChange → List ℕ → Type 0
Took s bytes = Appends s.taken s.taken' bytes

-- or a part of them, from the first one on, and not all
abbrev pub TookPart : SinkChange → List ℕ → Type 0
TookPart s bytes = AppendsPrefix s.taken s.taken' bytes

-- a call wrote these bytes: all at Ok, and some and not all at Err, where the count rose
abbrev pub WroteTo : {T E : Type 0} → SinkChange → Result T E → List ℕ → Type 0
WroteTo s result bytes = Wrote s.taken s.taken' s.faults s.faults' result bytes
