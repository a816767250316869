-- What is at the front of a text: a token, something to skip, or a fault.
use Rattle.std.specs.Prelude.{ℕ, ◌+◌, ◌≡◌, ◌<◌, ◌≤◌, ◌==◌, Bool, ◌&&◌, ◌||◌, if◌then◌else◌, List, length, drop, slice_index, Option}
use Rattle.std.specs.Int.{w64, cast_unsigned}
use Rattle.std.specs.Char.{is_ascii_digit}
use Rattle.std.specs.List.{prefix_len}
use Rattle.std.specs.Option.{option_map_or}
use Rattle.lg_base.specs.declared.refusal.RefusalKind.TheVariants.{BadToken, BadExpr}
use Rattle.lg_lex.specs.declared.numbers.Literal.{Literal}
use Rattle.lg_lex.specs.declared.expressions.Reading.{Reading}
use Rattle.lg_lex.specs.declared.token.TokenKind.{TokenKind}
use Rattle.lg_lex.specs.declared.token.TokenKind.TheVariants.{Word, Directive, LabelMark, Register, Number, Character, Expression, Name, Host, Str}
use Rattle.lg_lex.specs.declared.fronts.Front.{Front}
use Rattle.lg_lex.specs.declared.fronts.Front.TheVariants.{Nothing, Skips, Finds, Fails}
use Rattle.lg_base.specs.WordBytes.{is_word_start, is_word_byte}
use Rattle.lg_lex.specs.Bytes.{is_in_line}
use Rattle.lg_lex.specs.Blanks.{blank_at}
use Rattle.lg_lex.specs.Escapes.{character_at, string_at}
use Rattle.lg_lex.specs.Expressions.{expression_at}
use Rattle.lg_lex.specs.Numbers.{number_at}

-- what is found has at least a byte, and lies within this many bytes
abbrev pub LiesWithin : Front → ℕ → Type 0
LiesWithin Nothing most = most ≡ 0
LiesWithin (Skips n) most = (0 < n) × (n ≤ most)
LiesWithin (Finds kind n value) most = (0 < n) × (n ≤ most)
LiesWithin (Fails kind) most = Unit {0}

-- how many bytes a word at the front has, and 0 where none is there
unfoldable pub word_len : List ℕ → ℕ
word_len bytes = if is_word_start (slice_index bytes 0) then prefix_len is_word_byte bytes else 0

-- a word, or with : directly after it a label definition
unfoldable pub word_at : List ℕ → Front
word_at bytes = let n = word_len bytes in if slice_index bytes n == 58 then Finds LabelMark (n + 1) 0 else Finds Word n 0

-- a mark with a word directly after it
unfoldable pub marked_at : TokenKind → List ℕ → Front
marked_at kind bytes = let n = word_len (drop 1 bytes) in if n == 0 then Fails BadToken else Finds kind (1 + n) 0

-- a line marker, skipped to the end of its line: #, spaces and a digit, with only spaces and tabs before it in its line
unfoldable pub marker_at : Bool → List ℕ → Front
marker_at fresh bytes = let n = 1 + prefix_len (λ b. b == 32) (drop 1 bytes) in
    if fresh && is_ascii_digit (slice_index bytes n) then Skips (prefix_len is_in_line bytes) else Fails BadToken

-- a number or a character
abbrev pub literal_token : TokenKind → Option Literal → Front
literal_token kind literal = option_map_or (λ found. Finds kind found.len found.value) literal (Fails BadToken)

-- an expression, with the ) after it
abbrev pub expression_token : Option Reading → Front
expression_token expression = option_map_or (λ read. Finds Expression (read.end + 1) (cast_unsigned w64 read.value)) expression (Fails BadExpr)

abbrev pub string_token : Option ℕ → Front
string_token string = option_map_or (λ n. Finds Str n 0) string (Fails BadToken)

-- an expression, or a name
unfoldable pub dollar_at : List ℕ → Front
dollar_at bytes = if slice_index bytes 1 == 40 then expression_token (expression_at bytes) else marked_at Name bytes

-- what a mark begins: # . % @ $ ' "
unfoldable pub mark_at : Bool → List ℕ → Front
mark_at fresh bytes = let b = slice_index bytes 0 in
    if b == 35 then marker_at fresh bytes else (if b == 46 then marked_at Directive bytes
    else (if b == 37 then marked_at Register bytes else (if b == 64 then marked_at Host bytes
    else (if b == 36 then dollar_at bytes else (if b == 39 then literal_token Character (character_at bytes)
    else (if b == 34 then string_token (string_at bytes) else Fails BadToken))))))

-- a token or a line marker
unfoldable pub token_at : Bool → List ℕ → Front
token_at fresh bytes = let b = slice_index bytes 0 in
    if is_word_start b then word_at bytes
    else (if is_ascii_digit b || ((b == 45) || (b == 43)) then literal_token Number (number_at bytes) else mark_at fresh bytes)

-- what is at the front; fresh says that only spaces and tabs are before it in its line
unfoldable pub front_at : Bool → List ℕ → Front
front_at fresh bytes = if length bytes == 0 then Nothing else option_map_or Skips (blank_at bytes) (token_at fresh bytes)

-- this is at the front, whatever is before it in its line
abbrev pub IsFront : List ℕ → Front → Type 0
IsFront bytes front = (fresh : Bool) → front_at fresh bytes ≡ front
