-- The byte of a text that begins no token, and what it might be.
use Rattle.std.specs.Prelude.{ℕ, ◌==◌, ◌||◌, if◌then◌else◌, List, [], ◌∷◌, drop, fold, Option, Some, None, codes}
use Rattle.std.specs.Char.{is_ascii_digit}
use Rattle.std.specs.Option.{option_map}
use Rattle.lg_io.specs.Wrote.{row}
use Rattle.lg_lex.specs.Bytes.{is_space}
use Rattle.lg_lex.specs.Tokens.{tokens_of}
use Rattle.lg_lex.specs.declared.token.Token.{Token}
use Rattle.lg_explain.specs.declared.bad_byte.Gap.{Gap}
use Rattle.lg_explain.specs.declared.bad_byte.Gap.TheVariants.{Fresh, Blank, Slash, Line, Block, Star, Hash, Found}

-- ---- after the last token: white space, comments and line markers, and then the byte
-- spaces, tabs and line feeds keep a line fresh, in which a line marker may come
abbrev pub fresh_space : ℕ → Gap
fresh_space b = if (b == 10) || ((b == 32) || (b == 9)) then Fresh else Blank

abbrev pub blank_space : ℕ → Gap
blank_space b = if b == 10 then Fresh else Blank

abbrev pub slash_or : ℕ → Gap
slash_or b = if b == 47 then Slash else Found b

abbrev pub mark_or : ℕ → Gap
mark_or b = if b == 35 then Hash else slash_or b

-- what a byte leads to
abbrev pub gap_after : Gap → ℕ → Gap
gap_after Fresh b = if is_space b then fresh_space b else mark_or b
gap_after Blank b = if is_space b then blank_space b else slash_or b
gap_after Slash b = if b == 47 then Line else (if b == 42 then Block else Found 47)
gap_after Line b = if b == 10 then Fresh else Line
gap_after Block b = if b == 42 then Star else Block
gap_after Star b = if b == 47 then Blank else (if b == 42 then Star else Block)
gap_after Hash b = if b == 32 then Hash else (if is_ascii_digit b then Line else Found 35)
gap_after (Found byte) b = Found byte

-- the place after the last token, from a place on
abbrev pub end_after : ℕ → List Token → ℕ
end_after place [] = place
end_after place (t ∷ more) = end_after t.end more

abbrev pub gap_from : ℕ → Gap
gap_from place = if place == 0 then Fresh else Blank

abbrev pub gap_at : List ℕ → ℕ → Gap
gap_at text place = fold gap_after (gap_from place) (drop place text)

-- the byte: of a comment that is not ended its mark
abbrev pub byte_of : Gap → Option ℕ
byte_of Fresh = None
byte_of Blank = None
byte_of Slash = Some 47
byte_of Line = None
byte_of Block = Some 47
byte_of Star = Some 47
byte_of Hash = Some 35
byte_of (Found b) = Some b

-- ---- the words
abbrev pub other_cause : ℕ → List ℕ
other_cause b =
    if b == 44 then codes "separates nothing: put blanks between operands"
    else (if b == 59 then codes "ends nothing: put blanks between statements; comments are // and /* */"
    else (if b == 47 then codes "starts a comment: // to the end of the line, or /* to the next */"
    else (if is_ascii_digit b || ((b == 45) || (b == 43)) then codes "starts a number: decimal, hexadecimal after 0x or octal after 0, with no letter after it but u and l"
    else codes "starts no token")))

abbrev pub cause_of : ℕ → List ℕ
cause_of b =
    if b == 36 then codes "starts a name, as $count, or an expression, as $(1 + 2); a number has no $"
    else (if b == 34 then codes "starts a string, which ends with another one on the same line; an escape in it starts with a backslash"
    else (if b == 39 then codes "starts a character: one byte or escape, then '"
    else (if b == 37 then codes "starts a register: a letter comes right after it"
    else (if b == 64 then codes "starts a host function: a letter comes right after it"
    else (if b == 46 then codes "starts a directive: a letter comes right after it; numbers have no point"
    else (if b == 35 then codes "starts no comment: comments are // and /* */; a number has no #"
    else other_cause b))))))

abbrev pub byte_words : ℕ → List ℕ
byte_words b = row (codes "'" ∷ (b ∷ []) ∷ codes "' " ∷ cause_of b ∷ [])

-- of a whole text
abbrev pub bad_byte : List ℕ → Option (List ℕ)
bad_byte text = option_map byte_words (byte_of (gap_at text (end_after 0 (tokens_of text).0)))
