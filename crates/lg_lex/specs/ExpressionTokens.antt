-- What the tokens of a text say of its expressions.
use Rattle.std.specs.Prelude.{ℕ, ◌-◌, ◌+◌, ◌≡◌, ℤ, List, drop, slice_index, All, IfSome}
use Rattle.std.specs.Int.{w64, cast_unsigned}
use Rattle.lg_base.specs.declared.refusal.Refusal.{Refusal}
use Rattle.lg_base.specs.declared.refusal.RefusalKind.TheVariants.{BadExpr}
use Rattle.lg_lex.specs.declared.token.Token.{Token}
use Rattle.lg_lex.specs.declared.token.TokenKind.TheVariants.{Expression}
use Rattle.lg_lex.specs.Tokens.{Tokens, line_of}
use Rattle.lg_lex.specs.Trees.{IsExpression}

-- the text of an expression token is an expression of the grammar, and its value is the token's, as a word
abbrev pub HasExpression : List ℕ → Token → Type 0
HasExpression text token = token.kind ≡ Expression →
    (value : ℤ) × (token.value ≡ cast_unsigned w64 value) × IsExpression (drop token.start text) (token.end - token.start) value

-- BadExpr is the fault where $( is in that line and no expression of the grammar
abbrev pub HasNoExpression : List ℕ → Refusal → Type 0
HasNoExpression text refusal = refusal.kind ≡ BadExpr →
    (place : ℕ) × (refusal.line ≡ line_of text place) × (slice_index text place ≡ 36) × (slice_index text (place + 1) ≡ 40)
    × ((len : ℕ) (value : ℤ) → ¬ IsExpression (drop place text) len value)

-- every expression token is an expression, and the fault BadExpr is none
abbrev pub ReadsExpressions : List ℕ → Tokens → Type 0
ReadsExpressions text tokens = All (HasExpression text) tokens.0 × IfSome tokens.1 (HasNoExpression text)
