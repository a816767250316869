-- A text cut into pieces.
use Rattle.std.specs.Prelude.{ℕ, zero, suc, ◌+◌, ◌==◌, max, Bool, false, not, ◌||◌, ◌&&◌, if◌then◌else◌, List, [], ◌∷◌, length, take, drop, slice_index}
use Rattle.std.specs.Char.{is_ascii_digit}
use Rattle.std.specs.List.{prefix_len}
use Rattle.lg_base.specs.WordBytes.{is_word_start, is_word_byte}
use Rattle.lg_lex.specs.Bytes.{is_in_line}
use Rattle.lg_macro.specs.Pieces.{Piece}
use Rattle.lg_macro.specs.declared.pieces.PieceKind.{PieceKind}
use Rattle.lg_macro.specs.declared.pieces.PieceKind.TheVariants.{Comment, Quoted, Word, Number, Feed, Byte}

-- how many bytes there are up to the first */, that included, or to the end
unfoldable pub block_len : List ℕ → ℕ
block_len [] = 0
block_len (b ∷ bytes) = if (b == 42) && (slice_index bytes 0 == 47) then 2 else 1 + block_len bytes

-- how many bytes of a string or character there are up to its closing mark, that included, or to the end of its line; escaped says that a \ is before
unfoldable pub quoted_len : ℕ → Bool → List ℕ → ℕ
quoted_len mark escaped [] = 0
quoted_len mark escaped (b ∷ bytes) =
    if b == 10 then 0 else (if (b == mark) && not escaped then 1 else 1 + quoted_len mark ((b == 92) && not escaped) bytes)

abbrev pub comment_len : List ℕ → ℕ
comment_len bytes = if slice_index bytes 1 == 42 then 2 + block_len (drop 2 bytes) else prefix_len is_in_line bytes

abbrev pub begins_comment : List ℕ → Bool
begins_comment bytes = (slice_index bytes 0 == 47) && ((slice_index bytes 1 == 42) || (slice_index bytes 1 == 47))

-- the kind of the first piece, and its length
unfoldable pub front_of : List ℕ → PieceKind × ℕ
front_of bytes = let b = slice_index bytes 0 in
    if begins_comment bytes then (Comment, comment_len bytes)
    else (if (b == 34) || (b == 39) then (Quoted, 1 + quoted_len b false (drop 1 bytes))
    else (if is_word_start b then (Word, prefix_len is_word_byte bytes)
    else (if is_ascii_digit b then (Number, prefix_len is_word_byte bytes)
    else (if b == 10 then (Feed, 1) else (Byte b, 1)))))

-- bytes cut into pieces of one line, at most this many
unfoldable pub cut_in : ℕ → ℕ → List ℕ → List Piece
cut_in zero line bytes = []
cut_in (suc k) line [] = []
cut_in (suc k) line (b ∷ rest) = let front = front_of (b ∷ rest) in
    record { kind = front.0; text = take front.1 (b ∷ rest); line = line; frozen = false } ∷ cut_in k line (drop (max 1 front.1) (b ∷ rest))

unfoldable pub cut : ℕ → List ℕ → List Piece
cut line bytes = cut_in (length bytes) line bytes
