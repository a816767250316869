-- What the calls of the parser answer.
use Rattle.std.specs.Prelude.{◌≡◌, ℕ, ◌+◌, ◌<◌, ◌≤◌, length, Option, Some, Result, Ok, Err}
use Rattle.std.specs.List.{All}
use Rattle.lg_base.specs.declared.refusal.Refusal.{Refusal}
use Rattle.lg_base.specs.declared.refusal.Stop.{Stop}
use Rattle.lg_base.specs.declared.refusal.Stop.TheVariants.{Refused, OutOfMemory}
use Rattle.lg_node.specs.declared.place.Place.{Place}
use Rattle.lg_node.specs.declared.place.Place.TheVariants as place
use Rattle.lg_node.specs.declared.unit.Unit.{Unit as TextUnit}
use Rattle.lg_tst.specs.Units.{State}

-- a call that gives x and leaves a state, or refuses, as a definition says; where memory ran out nothing is said
abbrev pub GivesWith : {A : Type 0} → Result A Stop → State → Result A Refusal → State → Type 0
GivesWith (Ok x) new read next = (read ≡ Ok x) × (new ≡ next)
GivesWith (Err OutOfMemory) new read next = Unit {0}
GivesWith (Err (Refused refusal)) new read next = read ≡ Err refusal

-- the same of a call that gives nothing but the state
abbrev pub Gives : Result (Unit {0}) Stop → State → Result State Refusal → Type 0
Gives (Ok u) new read = read ≡ Ok new
Gives (Err OutOfMemory) new read = Unit {0}
Gives (Err (Refused refusal)) new read = read ≡ Err refusal

-- the same of a call that gives what it read
abbrev pub Reads : {A : Type 0} → Result A Stop → Result A Refusal → Type 0
Reads (Ok x) read = read ≡ Ok x
Reads (Err OutOfMemory) read = Unit {0}
Reads (Err (Refused refusal)) read = read ≡ Err refusal

-- a token has been taken that has added no word and no name yet
abbrev pub HasRoom : State → Type 0
HasRoom s = length s.list.words + length s.names.words + length s.source.left < 16777216

-- a place in the data part is at most after this many bytes
abbrev pub LiesWithin : ℕ → Option Place → Type 0
LiesWithin n (Some (place.Image k)) = k ≤ n
LiesWithin n bound = Unit {0}

-- the data part of a unit has at most 16 MiB, and no data label is bound after its end
pub record IsWhole (u : TextUnit) : Type 0 where
  pub image : length u.image ≤ 16777216
  pub places : All (LiesWithin (length u.image)) u.nodes.places
