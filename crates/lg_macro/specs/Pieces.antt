-- Pieces of a text.
use Rattle.std.specs.Prelude.{ℕ, ◌==◌, Bool, true, false, ◌||◌, List, [], ◌-◌, length, slice_index_or, take, drop}
use Rattle.std.specs.Int.{is_in_range}
use Rattle.lg_macro.specs.declared.pieces.PieceKind.{PieceKind}
use Rattle.lg_macro.specs.declared.pieces.PieceKind.TheVariants.{Comment, Word, Feed, Byte}

-- a piece: its kind, its bytes, the line that a fault there is reported with, and whether it is frozen
pub record Piece : Type 0 where
  pub kind : PieceKind
  pub text : List ℕ
  pub line : ℕ
  pub frozen : Bool

abbrev pub text_length : Piece → ℕ
text_length p = length p.text

-- white space or a comment
abbrev pub is_white : PieceKind → Bool
is_white Comment = true
is_white Feed = true
is_white (Byte b) = (b == 32) || is_in_range 9 13 b
is_white kind = false

-- this single byte
abbrev pub is_byte : ℕ → PieceKind → Bool
is_byte byte (Byte b) = b == byte
is_byte byte kind = false

-- the piece at a place
abbrev pub no_piece : Piece
no_piece = record { kind = Comment; text = []; line = 0; frozen = false }

abbrev pub piece_at : List Piece → ℕ → Piece
piece_at pieces place = slice_index_or pieces place no_piece

-- a comment or a line feed, which is a space in an argument
abbrev pub is_spaced : PieceKind → Bool
is_spaced Comment = true
is_spaced Feed = true
is_spaced kind = false

abbrev pub is_word : PieceKind → Bool
is_word Word = true
is_word kind = false

-- a word that was met while hidden
abbrev pub froze : Piece → Piece
froze p = record p { frozen = true }

-- a piece of a body, on the line of the name that it replaces
abbrev pub on_line : ℕ → Piece → Piece
on_line line p = record { kind = p.kind; text = p.text; line = line; frozen = false }

-- the pieces between two places
abbrev pub between : ℕ → ℕ → List Piece → List Piece
between from end pieces = take (end - from) (drop from pieces)

abbrev pub is_feed : PieceKind → Bool
is_feed Feed = true
is_feed kind = false
