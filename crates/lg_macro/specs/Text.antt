-- The pieces of a text with their lines, and the lines that are directives.
use Rattle.std.specs.Prelude.{ℕ, zero, suc, ◌+◌, ◌-◌, ◌==◌, max, Bool, true, false, not, ◌&&◌, ◌||◌, if◌then◌else◌, List, [], ◌∷◌, ◌++◌, length, take, drop, slice_index, count_by, filter, Option, Some, None}
use Rattle.lg_lex.specs.Bytes.{further}
use Rattle.lg_macro.specs.Cutting.{front_of}
use Rattle.lg_macro.specs.Pieces.{Piece, is_byte, is_feed}
use Rattle.lg_macro.specs.declared.pieces.PieceKind.{PieceKind}
use Rattle.lg_macro.specs.declared.pieces.PieceKind.TheVariants.{Comment, Number, Byte}

abbrev pub is_comment : PieceKind → Bool
is_comment Comment = true
is_comment kind = false

abbrev pub is_number : PieceKind → Bool
is_number Number = true
is_number kind = false

-- what may be before the # of a directive
abbrev pub is_margin : PieceKind → Bool
is_margin Comment = true
is_margin (Byte b) = (b == 32) || (b == 9)
is_margin kind = false

-- the line feeds of bytes: how many, and themselves
abbrev pub feeds_of : List ℕ → ℕ
feeds_of text = count_by (λ b. b == 10) text

abbrev pub feeds_in : List ℕ → List ℕ
feeds_in text = filter (λ b. b == 10) text

-- the pieces of bytes that begin on a line, at most this many: each has the line of its first byte
unfoldable pub text_pieces : ℕ → ℕ → List ℕ → List Piece
text_pieces zero line bytes = []
text_pieces (suc k) line [] = []
text_pieces (suc k) line (b ∷ rest) = let front = front_of (b ∷ rest) in let n = max 1 front.1 in
    record { kind = front.0; text = take n (b ∷ rest); line = line; frozen = false } ∷ text_pieces k (line + feeds_of (take n (b ∷ rest))) (drop n (b ∷ rest))

-- all pieces of bytes that begin on a line
abbrev pub pieces_on : ℕ → List ℕ → List Piece
pieces_on line bytes = text_pieces (length bytes) line bytes

-- the bytes of pieces, joined with nothing between
abbrev pub bytes_of : List Piece → List ℕ
bytes_of [] = []
bytes_of (p ∷ pieces) = p.text ++ bytes_of pieces

-- ---- the lines

abbrev pub ends_with_slash : Piece → Bool
ends_with_slash p = slice_index p.text (length p.text - 1) == 92

-- the pieces of a line, its line feed included. A line that goes on does so over each line feed with a backslash directly before it;
-- slash says that the byte before is one
unfoldable pub line_len : Bool → Bool → List Piece → ℕ
line_len goes_on slash [] = 0
line_len goes_on slash (p ∷ rest) = if is_feed p.kind && not (goes_on && slash) then 1 else 1 + line_len goes_on (ends_with_slash p) rest

-- whether a number comes next, but for spaces: after a # that has only spaces and tabs before it this is a line marker
unfoldable pub marks_line : List Piece → Bool
marks_line [] = false
marks_line (p ∷ rest) = if is_byte 32 p.kind then marks_line rest else is_number p.kind

-- whether a piece is the # of a directive; fresh says that only spaces and tabs are before it in its line
abbrev pub begins_directive : Bool → Piece → List Piece → Bool
begins_directive fresh p rest = is_byte 35 p.kind && not (fresh && marks_line rest)

-- the pieces before the # of a directive, where the line that begins here is one: spaces, tabs and comments
unfoldable pub mark_in : Bool → List Piece → Option ℕ
mark_in fresh [] = None
mark_in fresh (p ∷ rest) = if is_margin p.kind then further 1 (mark_in (fresh && not (is_comment p.kind)) rest)
    else (if begins_directive fresh p rest then Some 0 else None)
