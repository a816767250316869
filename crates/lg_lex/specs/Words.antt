-- The words of tokens: each takes all the bytes that it can.
use Rattle.std.specs.Prelude.{◌≡◌, ◌≢◌, ℕ, ◌+◌, ◌<◌, ◌≤◌, true, false, List, slice_index}
use Rattle.std.specs.List.{All}
use Rattle.lg_base.specs.WordBytes.{is_word_start, is_word_byte}
use Rattle.lg_lex.specs.Tokens.{tokens_of}
use Rattle.lg_lex.specs.declared.token.Token.{Token}
use Rattle.lg_lex.specs.declared.token.TokenKind.{TokenKind}
use Rattle.lg_lex.specs.declared.token.TokenKind.TheVariants.{Word, Directive, LabelMark, Register, Number, Character, Expression, Name, Host, Str}

-- a letter or _, then letters, digits and _, as many as there are
pub record IsWholeWord (text : List ℕ) (from end : ℕ) : Type 0 where
  pub some : from < end
  pub start : is_word_start (slice_index text from) ≡ true
  pub bytes : (k : ℕ) → from ≤ k → k < end → is_word_byte (slice_index text k) ≡ true
  pub stops : is_word_byte (slice_index text end) ≡ false

-- a mark with a whole word directly after it
abbrev pub IsMarkedWord : ℕ → List ℕ → ℕ → ℕ → Type 0
IsMarkedWord mark text from end = (slice_index text from ≡ mark) × IsWholeWord text (from + 1) end

abbrev pub colon : ℕ
colon = 58

-- a label definition is a whole word and the colon directly after it
pub record IsLabelMark (text : List ℕ) (from end : ℕ) : Type 0 where
  pub place : ℕ
  pub word : IsWholeWord text from place
  pub mark : slice_index text place ≡ colon
  pub is : end ≡ place + 1

-- what a token of a kind is, where its form is a word
abbrev pub IsWordToken : TokenKind → List ℕ → ℕ → ℕ → Type 0
IsWordToken Word text from end = IsWholeWord text from end × (slice_index text end ≢ colon)
IsWordToken LabelMark text from end = IsLabelMark text from end
IsWordToken Directive text from end = IsMarkedWord 46 text from end
IsWordToken Register text from end = IsMarkedWord 37 text from end
IsWordToken Host text from end = IsMarkedWord 64 text from end
IsWordToken Name text from end = IsMarkedWord 36 text from end
IsWordToken Number text from end = Unit {0}
IsWordToken Character text from end = Unit {0}
IsWordToken Expression text from end = Unit {0}
IsWordToken Str text from end = Unit {0}

abbrev pub WordsAreWhole : Type 0
WordsAreWhole = (text : List ℕ) → All (λ (t : Token). IsWordToken t.kind text t.start t.end) (tokens_of text).0
