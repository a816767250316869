-- The expressions of #if.
use Rattle.std.specs.Prelude.{ℕ, zero, suc, ◌+◌, ◌==◌, nat_le, Bool, true, false, not, ◌&&◌, if◌then◌else◌, List, [], ◌∷◌, ◌++◌, length, drop, Option, Some, None, is_some, Result, Ok, codes}
use Rattle.std.specs.List.{prefix_len}
use Rattle.std.specs.Str.{bytes_eq}
use Rattle.lg_lex.specs.Tokens.{tokens_of}
use Rattle.lg_lex.specs.declared.token.Token.{Token}
use Rattle.lg_lex.specs.declared.token.TokenKind.{TokenKind}
use Rattle.lg_lex.specs.declared.token.TokenKind.TheVariants.{Expression}
use Rattle.lg_replacement.specs.Expansion.{expand_in}
use Rattle.lg_base.specs.Refusals.{◌>>=◌, refuse}
use Rattle.lg_macro.specs.Macros.{place_in}
use Rattle.lg_macro.specs.Pieces.{Piece, piece_at, is_white, is_byte, is_word}
use Rattle.lg_macro.specs.declared.macros.Macro.{Macro}
use Rattle.lg_macro.specs.declared.pieces.PieceKind.TheVariants.{Number}
use Rattle.lg_base.specs.declared.refusal.Refusal.{Refusal}
use Rattle.lg_base.specs.declared.refusal.RefusalKind.TheVariants.{BadDirective}

-- ---- `defined NAME` and `defined(NAME)`

-- the place of the next piece that is no white space
abbrev pub solid_at : List Piece → ℕ → ℕ
solid_at pieces at = at + prefix_len (λ p. is_white p.kind) (drop at pieces)

-- the place of a name with its ) after it, and the place after that
abbrev pub name_in_parens : List Piece → ℕ → Option (ℕ × ℕ)
name_in_parens pieces name = let close = solid_at pieces (name + 1) in
    if is_word (piece_at pieces name).kind && is_byte 41 (piece_at pieces close).kind then Some (name, close + 1) else None

-- the place of the name that is after `defined`, and the place after all of it
abbrev pub asked : List Piece → ℕ → Option (ℕ × ℕ)
asked pieces at = let first = solid_at pieces at in
    if is_word (piece_at pieces first).kind then Some (first, first + 1)
    else (if is_byte 40 (piece_at pieces first).kind then name_in_parens pieces (solid_at pieces (first + 1)) else None)

abbrev pub is_question : Piece → Bool
is_question p = is_word p.kind && bytes_eq p.text (codes "defined")

abbrev pub question_at : List Piece → ℕ → Option (ℕ × ℕ)
question_at pieces at = if is_question (piece_at pieces at) then asked pieces (at + 1) else None

-- 1 where a name is defined, and else 0
abbrev pub answer_of : List Macro → Piece → Piece
answer_of table p = record { kind = Number; text = (if is_some (place_in table p.text) then 49 else 48) ∷ []; line = p.line; frozen = false }

abbrev pub resolved_by : List Macro → List Piece → ℕ → Option (ℕ × ℕ) → (Piece × ℕ)
resolved_by table pieces at None = (piece_at pieces at, at + 1)
resolved_by table pieces at (Some found) = (answer_of table (piece_at pieces found.0), found.1)

-- the pieces from a place on with these questions answered, at most this many
unfoldable pub resolved_from : List Macro → List Piece → ℕ → ℕ → List Piece
resolved_from table pieces zero at = []
resolved_from table pieces (suc k) at = if nat_le (length pieces) at then []
    else (let next = resolved_by table pieces at (question_at pieces at) in next.0 ∷ resolved_from table pieces k next.1)

abbrev pub resolved : List Macro → List Piece → List Piece
resolved table pieces = resolved_from table pieces (length pieces) 0

-- ---- the value of an expression

-- the token that an expression makes: $( before it, and a line feed and ) after it
abbrev pub token_text : List ℕ → List ℕ
token_text bytes = ((36 ∷ 40 ∷ []) ++ bytes) ++ 10 ∷ 41 ∷ []

abbrev pub is_expression : TokenKind → Bool
is_expression Expression = true
is_expression kind = false

abbrev pub value_in : ℕ → List Token → Option ℕ
value_in end [] = None
value_in end (token ∷ more) = if is_expression token.kind && (token.end == end) then Some token.value else None

-- the word that an expression gives: it is the value of the token that is the whole of this text
abbrev pub value_of : List ℕ → Option ℕ
value_of bytes = value_in (length (token_text bytes)) (tokens_of (token_text bytes)).0

-- a word that is left is 0
abbrev pub worth : Piece → List ℕ
worth p = if is_word p.kind then 48 ∷ [] else p.text

abbrev pub worth_of : List Piece → List ℕ
worth_of [] = []
worth_of (p ∷ pieces) = worth p ++ worth_of pieces

abbrev pub sure : {A : Type 0} → ℕ → Option A → Result A Refusal
sure line None = refuse BadDirective line
sure line (Some x) = Ok x

abbrev pub is_chosen : ℕ → List ℕ → Result Bool Refusal
is_chosen line bytes = sure line (value_of bytes) >>= (λ value. Ok (not (value == 0)))

-- an expression with its questions answered and its macros replaced
abbrev pub question : List Macro → ℕ → List Piece → ℕ → Result (List Piece × ℕ) Refusal
question table line pieces sum = expand_in table 201 line [] (resolved table pieces) ([], sum)

-- whether the group of an #if is chosen, and the sum of replacements after its expression
abbrev pub asks : List Macro → ℕ → List Piece → ℕ → Result (Bool × ℕ) Refusal
asks table line pieces sum = if length pieces == 0 then refuse BadDirective line
    else question table line pieces sum >>= (λ given. is_chosen line (worth_of given.0) >>= (λ chosen. Ok (chosen, given.1)))
