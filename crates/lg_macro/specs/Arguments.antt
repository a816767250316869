-- The calls of macros, and their arguments.
use Rattle.std.specs.Prelude.{ℕ, zero, suc, ◌+◌, ◌-◌, ◌==◌, Bool, true, false, ◌&&◌, if◌then◌else◌, List, [], ◌∷◌, ◌++◌, length, take, drop, Option, Some, None, fold}
use Rattle.std.specs.List.{prefix_len}
use Rattle.lg_lex.specs.Bytes.{further}
use Rattle.lg_macro.specs.Pieces.{Piece, is_white, is_byte, is_spaced}
use Rattle.lg_macro.specs.declared.pieces.PieceKind.{PieceKind}
use Rattle.lg_macro.specs.declared.pieces.PieceKind.TheVariants.{Byte, Feed}

-- the pieces to the ( of a call, that included: it comes next but for white space
unfoldable pub opening : List Piece → Option ℕ
opening [] = None
opening (p ∷ rest) = if is_white p.kind then further 1 (opening rest) else (if is_byte 40 p.kind then Some 1 else None)

-- the open parentheses after a piece
abbrev pub depth_after : ℕ → PieceKind → ℕ
depth_after depth kind = if is_byte 40 kind then depth + 1 else (if is_byte 41 kind then depth - 1 else depth)

-- the pieces before the ) that closes the call, where this many parentheses are open besides
unfoldable pub closing : ℕ → List Piece → Option ℕ
closing depth [] = None
closing depth (p ∷ rest) = if is_byte 41 p.kind && (depth == 0) then Some 0 else further 1 (closing (depth_after depth p.kind) rest)

-- a piece of an argument: a comment or a line feed is a space, and its line is that of the call
abbrev pub in_argument : ℕ → Piece → Piece
in_argument line p = if is_spaced p.kind then record { kind = Byte 32; text = 32 ∷ []; line = line; frozen = false } else record p { line = line }

abbrev pub solid_by : Piece → ℕ → ℕ
solid_by p zero = if is_white p.kind then 0 else 1
solid_by p (suc n) = suc (suc n)

-- the pieces to the last that is no white space, that included
unfoldable pub solid_len : List Piece → ℕ
solid_len [] = 0
solid_len (p ∷ rest) = solid_by p (solid_len rest)

-- without the white space at the ends
unfoldable pub stripped : List Piece → List Piece
stripped pieces = let solid = take (solid_len pieces) pieces in drop (prefix_len (λ p. is_white p.kind) solid) solid

-- the arguments, parted by the commas outside parentheses; those that are done, and the pieces of the next one so far, are in front
unfoldable pub gathered : ℕ → ℕ → List (List Piece) → List Piece → List Piece → List (List Piece)
gathered line depth done now [] = done ++ stripped now ∷ []
gathered line depth done now (p ∷ rest) =
    if is_byte 44 p.kind && (depth == 0) then gathered line depth (done ++ stripped now ∷ []) [] rest
    else gathered line (depth_after depth p.kind) done (now ++ in_argument line p ∷ []) rest

-- one empty argument
abbrev pub is_empty_list : List (List Piece) → Bool
is_empty_list ([] ∷ []) = true
is_empty_list arguments = false

abbrev pub without_empty : ℕ → List (List Piece) → List (List Piece)
without_empty arity arguments = if (arity == 0) && is_empty_list arguments then [] else arguments

abbrev pub if_so_many : ℕ → List (List Piece) → Option (List (List Piece))
if_so_many arity arguments = if length arguments == arity then Some arguments else None

-- the arguments between the parentheses of a call, where their number is right
unfoldable pub arguments_of : ℕ → ℕ → List Piece → Option (List (List Piece))
arguments_of arity line pieces = if_so_many arity (without_empty arity (gathered line 0 [] [] pieces))

abbrev pub feed : ℕ → Piece
feed line = record { kind = Feed; text = 10 ∷ []; line = line; frozen = false }

abbrev pub with_feed : ℕ → List Piece → ℕ → List Piece
with_feed line given b = if b == 10 then given ++ feed line ∷ [] else given

abbrev pub with_feeds_of : ℕ → List Piece → Piece → List Piece
with_feeds_of line given p = fold (with_feed line) given p.text

-- what is given, and after it each line feed of pieces
unfoldable pub with_feeds : ℕ → List Piece → List Piece → List Piece
with_feeds line given pieces = fold (with_feeds_of line) given pieces
