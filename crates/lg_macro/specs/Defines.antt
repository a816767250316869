-- The pieces of a directive, and the definition of a macro.
use Rattle.std.specs.Prelude.{ℕ, ◌+◌, ◌==◌, min, Bool, true, false, not, ◌&&◌, if◌then◌else◌, List, [], ◌∷◌, ◌++◌, length, take, drop, fold, Option, Some, None, option_and_then, position}
use Rattle.std.specs.Str.{bytes_eq}
use Rattle.std.specs.List.{list_any}
use Rattle.lg_lex.specs.Bytes.{further}
use Rattle.lg_macro.specs.Arguments.{stripped, gathered}
use Rattle.lg_macro.specs.Macros.{most}
use Rattle.lg_macro.specs.Marks.{glue_last, plain}
use Rattle.lg_macro.specs.declared.body.Body.{Body}
use Rattle.lg_macro.specs.declared.macros.Macro.{Macro}
use Rattle.lg_macro.specs.Pieces.{Piece, piece_at, is_white, is_byte, is_feed, is_spaced, is_word}
use Rattle.lg_macro.specs.declared.macros.Mark.{Mark}
use Rattle.lg_macro.specs.declared.pieces.PieceKind.{PieceKind}
use Rattle.lg_macro.specs.declared.pieces.PieceKind.TheVariants.{Byte, Comment, Feed, Word}

-- ---- the pieces of a directive

abbrev pub first_is_feed : List Piece → Bool
first_is_feed [] = false
first_is_feed (p ∷ rest) = is_feed p.kind

abbrev pub spaced : Piece → Piece
spaced p = if is_spaced p.kind then record { kind = Byte 32; text = 32 ∷ []; line = p.line; frozen = false } else p

-- a comment or a spliced line feed is a space, and the backslash of a splice goes
unfoldable pub spliced : List Piece → List Piece
spliced [] = []
spliced (p ∷ rest) = if is_byte 92 p.kind && first_is_feed rest then spliced rest else spaced p ∷ spliced rest

-- a piece that stays as it is, whatever comes next
abbrev pub is_straight : PieceKind → Bool
is_straight Comment = false
is_straight Feed = false
is_straight (Byte b) = not (b == 92)
is_straight kind = true

-- ---- parameters

-- the pieces before the first )
unfoldable pub to_close : List Piece → Option ℕ
to_close [] = None
to_close (p ∷ rest) = if is_byte 41 p.kind then Some 0 else further 1 (to_close rest)

abbrev pub one_word : List Piece → Option (List ℕ)
one_word (p ∷ []) = if is_word p.kind then Some p.text else None
one_word pieces = None

abbrev pub with_name : List (List ℕ) → List ℕ → Option (List (List ℕ))
with_name done word = if list_any (bytes_eq word) done then None else Some (done ++ word ∷ [])

-- the names of parameters, each a word of its own
unfoldable pub names_of : List (List ℕ) → List (List Piece) → Option (List (List ℕ))
names_of done [] = Some done
names_of done (g ∷ more) = option_and_then (λ word. option_and_then (λ next. names_of next more) (with_name done word)) (one_word g)

-- one list of white space is no parameter
abbrev pub no_group : List (List Piece) → Bool
no_group ([] ∷ []) = true
no_group groups = false

abbrev pub parameters_in : List (List Piece) → Option (List (List ℕ))
parameters_in groups = if no_group groups then Some [] else names_of [] groups

-- the parameters between the parentheses
unfoldable pub parameters_of : List Piece → Option (List (List ℕ))
parameters_of inside = parameters_in (gathered 0 0 [] [] inside)

-- ---- the body

-- the body of a macro as far as it was read
abbrev pub no_body : Body
no_body = record { pieces = []; marks = []; gap = []; glued = false; half = false; good = true }

abbrev pub failed : Body → Body
failed b = record b { good = false }

-- a # is the first half of a ##, or the second: then what is before it is glued, and the white space before it goes
abbrev pub at_sign : Body → Body
at_sign b = if not b.half then record b { half = true }
    else (if length b.marks == 0 then failed b else record b { marks = glue_last b.marks; gap = []; glued = true; half = false })

-- white space waits, and after a ## it goes
abbrev pub at_white : Body → Piece → Body
at_white b p = if b.glued then b else record b { gap = b.gap ++ p ∷ [] }

abbrev pub place_of : List (List ℕ) → List ℕ → Option ℕ
place_of names word = position (bytes_eq word) names

abbrev pub parameter_by : List (List ℕ) → List ℕ → PieceKind → Option ℕ
parameter_by names text Word = place_of names text
parameter_by names text kind = None

abbrev pub mark_of : List (List ℕ) → Body → Piece → Mark
mark_of names b p = record { parameter = parameter_by names p.text p.kind; glued = b.glued; glues = false }

abbrev pub with_plain : List Mark → Piece → List Mark
with_plain marks p = marks ++ plain ∷ []

-- another piece comes after the white space that waits
abbrev pub at_solid : List (List ℕ) → Body → Piece → Body
at_solid names b p = record b {
  pieces = (b.pieces ++ b.gap) ++ p ∷ [];
  marks = fold with_plain b.marks b.gap ++ mark_of names b p ∷ [];
  gap = [];
  glued = false;
}

-- a body with one piece more
abbrev pub with_piece : List (List ℕ) → Body → Piece → Body
with_piece names b p = if is_byte 35 p.kind then at_sign b else (if b.half then failed b else (if is_white p.kind then at_white b p else at_solid names b p))

abbrev pub body_of : List (List ℕ) → List Piece → Body
body_of names pieces = fold (with_piece names) no_body pieces

-- the bytes of a body, as far as they matter
abbrev pub with_len : ℕ → Piece → ℕ
with_len n p = min (most + 1) (n + length p.text)

abbrev pub size_of : List Piece → ℕ
size_of pieces = fold with_len 0 pieces

-- a body ends well where no # and no ## is at its end
abbrev pub finished : List ℕ → Option ℕ → ℕ → Body → Option Macro
finished name arity size b = if b.good && (not b.half && not b.glued)
    then Some (record { name = name; arity = arity; body = b.pieces; marks = b.marks; size = size }) else None

-- ---- #define

abbrev pub with_body : List ℕ → Option ℕ → List (List ℕ) → List Piece → Option Macro
with_body name arity names body = finished name arity (size_of body) (body_of names body)

abbrev pub with_parameters : List ℕ → List Piece → List (List ℕ) → Option Macro
with_parameters name behind names = with_body name (Some (length names)) names (stripped behind)

abbrev pub closed_at : List ℕ → List Piece → Option ℕ → Option Macro
closed_at name pieces None = None
closed_at name pieces (Some n) = option_and_then (with_parameters name (drop (3 + n) pieces)) (parameters_of (take n (drop 2 pieces)))

-- the macro of a name, by whether a ( is directly after it
abbrev pub named_by : List Piece → Bool → Option Macro
named_by pieces false = with_body (piece_at pieces 0).text None [] (stripped (drop 1 pieces))
named_by pieces true = closed_at (piece_at pieces 0).text pieces (to_close (drop 2 pieces))

-- what is after #define, white space at its ends taken off: a name, a ( directly after it and parameters, and a body
abbrev pub written_by : List Piece → PieceKind → Option Macro
written_by pieces Word = named_by pieces (is_byte 40 (piece_at pieces 1).kind)
written_by pieces kind = None

abbrev pub written : List Piece → Option Macro
written pieces = written_by pieces (piece_at pieces 0).kind
