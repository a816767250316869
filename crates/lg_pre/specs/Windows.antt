-- A text whose pieces are cut one part after another, and the lines of each part.
use Rattle.std.specs.Prelude.{◌≡◌, ℕ, ◌+◌, true, false, List, ◌++◌, length, drop, Option, Some, None, Result, Ok, Err}
use Rattle.lg_base.specs.declared.refusal.Refusal.{Refusal}
use Rattle.lg_base.specs.declared.refusal.Stop.{Stop}
use Rattle.lg_base.specs.declared.refusal.Stop.TheVariants.{Refused, OutOfMemory}
use Rattle.lg_macro.specs.Pieces.{Piece}
use Rattle.lg_macro.specs.Text.{line_len}
use Rattle.lg_macro.specs.declared.macros.Macro.{Macro}
use Rattle.lg_pre.specs.Expanded.{lines_in}
use Rattle.lg_pre.specs.Given.{flushed}
use Rattle.lg_pre.specs.declared.expander.Expander.{Expander}
use Rattle.lg_replacement.specs.Expansion.{Given, Step}

-- the place after a line that begins at a place, by the pieces before its #
abbrev pub line_end : List Piece → ℕ → Option ℕ → ℕ
line_end text at None = at + line_len false false (drop at text)
line_end text at (Some n) = at + n + line_len true false (drop (at + n) text)

-- what comes of all that is left of a text
abbrev pub rest_of : List Piece → Expander → Result (List ℕ) Refusal
rest_of pieces s = lines_in (length pieces) pieces s 0

-- the same comes of pieces in an old state and of others in a new one, whatever follows them
abbrev pub GoesOn : List Piece → Expander → List Piece → Expander → Type 0
GoesOn before old after new = (more : List Piece) → rest_of (before ++ more) old ≡ rest_of (after ++ more) new

-- pieces have this fault, whatever follows them
abbrev pub Stops : List Piece → Expander → Stop → Type 0
Stops before old OutOfMemory = Unit {0}
Stops before old (Refused fault) = (more : List Piece) → rest_of (before ++ more) old ≡ Err fault

-- a call that leaves other pieces and another state, of which the same comes, or refuses what is to be refused; where memory ran out nothing is said
abbrev pub LeadsTo : {A : Type 0} → Result A Stop → List Piece → Expander → List Piece → Expander → Type 0
LeadsTo (Ok x) before old after new = GoesOn before old after new
LeadsTo (Err stop) before old after new = Stops before old stop

-- the same of a call that reads so many pieces
abbrev pub ReadsOn : Result ℕ Stop → List Piece → Expander → Expander → Type 0
ReadsOn (Ok n) pieces old new = GoesOn pieces old (drop n pieces) new
ReadsOn (Err stop) pieces old new = Stops pieces old stop

-- so many pieces of these are expanded and given, whatever follows them
abbrev pub FlushedOn : List Macro → List Piece → ℕ → (given given2 : List ℕ) → (sum sum2 : ℕ) → Type 0
FlushedOn table pieces n given given2 sum sum2 = (more : List Piece)
    → flushed table (length (pieces ++ more)) (pieces ++ more) given sum ≡ flushed table (length (drop n pieces ++ more)) (drop n pieces ++ more) given2 sum2

-- a call that expands and gives so many pieces, or refuses what is to be refused
abbrev pub FlushesOn : Result ℕ Stop → List Macro → List Piece → (given given2 : List ℕ) → (sum sum2 : ℕ) → Type 0
FlushesOn (Ok n) table pieces given given2 sum sum2 = FlushedOn table pieces n given given2 sum sum2
FlushesOn (Err OutOfMemory) table pieces given given2 sum sum2 = Unit {0}
FlushesOn (Err (Refused fault)) table pieces given given2 sum sum2 = (more : List Piece) → flushed table (length (pieces ++ more)) (pieces ++ more) given sum ≡ Err fault

-- a name that was expanded with so many pieces after it, or was not
abbrev pub IsTried : Option ℕ → Given → ℕ → Step → Type 0
IsTried None new sum read = new.1 ≡ sum
IsTried (Some n) new sum read = read ≡ Ok (n, new)
