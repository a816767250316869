-- How pieces are held.
use Rattle.std.specs.Prelude.{◌≡◌, ℕ, ◌+◌, ◌-◌, ◌≤◌, List, [], ◌∷◌, ◌++◌, length, map, take, drop}
use Rattle.std.specs.List.{All}
use Rattle.lg_macro.specs.Pieces.{Piece}
use Rattle.lg_macro.specs.declared.pieces.Part.{Part}

abbrev pub piece_of : List ℕ → Part → Piece
piece_of bytes part = record { kind = part.kind; text = take (part.end - part.start) (drop part.start bytes); line = part.line; frozen = part.frozen }

-- how many bytes its range has
abbrev pub width : Part → ℕ
width part = part.end - part.start

-- a piece lies within the bytes
abbrev pub LiesIn : List ℕ → Part → Type 0
LiesIn bytes part = (part.start ≤ part.end) × (part.end ≤ length bytes)

-- parts whose ranges follow one another from the first byte to a place
abbrev pub AreParts : List ℕ → ℕ → List Part → Type 0
AreParts bytes end parts = All (LiesIn bytes) parts × (map (λ p. p.start) parts ++ end ∷ [] ≡ 0 ∷ map (λ p. p.end) parts)

-- a part whose bytes were at one place, and are at another
abbrev pub moved : (from to : ℕ) → Part → Part
moved from to part = record { kind = part.kind; frozen = part.frozen; line = part.line; start = part.start - from + to; end = part.end - from + to }

-- a range is between two places
abbrev pub IsBetween : (from end : ℕ) → Part → Type 0
IsBetween from end part = (from ≤ part.start) × (part.start ≤ end) × (from ≤ part.end) × (part.end ≤ end)
