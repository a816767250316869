-- Which tokens stay in their line.
use Rattle.std.specs.Prelude.{ℕ, ◌≡◌, ◌==◌, Bool, true, false, List, count_by, fold}
use Rattle.lg_lex.specs.Tokens.{with_byte}
use Rattle.lg_lex.specs.declared.fronts.Front.{Front}
use Rattle.lg_lex.specs.declared.fronts.Front.TheVariants.{Nothing, Skips, Finds, Fails}
use Rattle.lg_lex.specs.declared.token.TokenKind.{TokenKind}
use Rattle.lg_lex.specs.declared.token.TokenKind.TheVariants.{Word, Directive, LabelMark, Register, Number, Character, Expression, Name, Host, Str}

-- the tokens that are a word, a mark and a word, or a number
abbrev pub is_solid_kind : TokenKind → Bool
is_solid_kind Word = true
is_solid_kind Directive = true
is_solid_kind LabelMark = true
is_solid_kind Register = true
is_solid_kind Number = true
is_solid_kind Character = false
is_solid_kind Expression = false
is_solid_kind Name = true
is_solid_kind Host = true
is_solid_kind Str = false

-- such a token, or none
abbrev pub IsSolid : Front → Type 0
IsSolid Nothing = Unit {0}
IsSolid (Skips n) = Unit {0}
IsSolid (Finds kind n value) = is_solid_kind kind ≡ true
IsSolid (Fails kind) = Unit {0}

-- bytes after which the line is the same, and something is in it
abbrev pub StaysInLine : List ℕ → Type 0
StaysInLine bytes = (count_by (λ b. b == 10) bytes ≡ 0) × ((fresh : Bool) → fold with_byte fresh bytes ≡ false)
