-- What reading a listing back answers.
use Rattle.std.specs.Prelude.{◌≡◌, ℕ, List, Result, Ok, Err}
use Rattle.lg_base.specs.declared.refusal.Refusal.{Refusal}
use Rattle.lg_base.specs.declared.refusal.RefusalKind.TheVariants.{BadListing}
use Rattle.lg_base.specs.declared.refusal.Stop.{Stop}
use Rattle.lg_base.specs.declared.refusal.Stop.TheVariants.{Refused, OutOfMemory}
use Rattle.lg_base.specs.declared.target.Target.{Target}
use Rattle.lg_list.specs.Back.{Back as IsBack}
use Rattle.lg_back.specs.declared.reader.Back.{Back}
use Rattle.lg_back.specs.Refused.{IsBadListing}

-- the refusal of a text that is no listing
abbrev pub bad_listing : ℕ → Refusal
bad_listing line = record { kind = BadListing; line = line }

-- a text is a listing of what is answered, or it is none and the line to blame is named; where memory ran out nothing is said
abbrev pub ReadsBack : List ℕ → Result Back Stop → Type 0
ReadsBack text (Ok back) = IsBack text back.target back.bytes.items
ReadsBack text (Err OutOfMemory) = Unit {0}
ReadsBack text (Err (Refused refusal)) = (refusal.kind ≡ BadListing) × IsBadListing text refusal.line

-- this target and these bytes are answered, or memory ran out
abbrev pub GivesBack : Result Back Stop → Target → List ℕ → Type 0
GivesBack (Ok back) t bytes = (back.target ≡ t) × (back.bytes.items ≡ bytes)
GivesBack (Err OutOfMemory) t bytes = Unit {0}
GivesBack (Err (Refused refusal)) t bytes = ⊥

-- the text is refused with this line, or memory ran out
abbrev pub IsRefusedAt : Result Back Stop → ℕ → Type 0
IsRefusedAt (Ok back) line = ⊥
IsRefusedAt (Err OutOfMemory) line = Unit {0}
IsRefusedAt (Err (Refused refusal)) line = refusal ≡ bad_listing line
