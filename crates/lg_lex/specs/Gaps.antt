-- What is between the tokens of a text.
use Rattle.std.specs.Prelude.{◌≡◌, ◌≢◌, ◌⊎◌, ℕ, ◌+◌, ◌<◌, ◌≤◌, true, List, [], ◌∷◌, length, slice_index, Option, Some, None}
use Rattle.std.specs.Char.{is_ascii_digit}
use Rattle.lg_base.specs.declared.refusal.Refusal.{Refusal}
use Rattle.lg_lex.specs.Bytes.{is_space}
use Rattle.lg_lex.specs.Tokens.{line_of, tokens_of}
use Rattle.lg_lex.specs.declared.token.Token.{Token}

-- ---- bytes

abbrev pub feed : ℕ
feed = 10

abbrev pub tab : ℕ
tab = 9

abbrev pub space : ℕ
space = 32

abbrev pub hash : ℕ
hash = 35

abbrev pub star : ℕ
star = 42

abbrev pub slash : ℕ
slash = 47

-- ---- what means nothing

-- a range of bytes within the text, of at least one
pub record IsRange (text : List ℕ) (from end : ℕ) : Type 0 where
  pub some : from < end
  pub within : end ≤ length text

pub record IsWhiteSpace (text : List ℕ) (from end : ℕ) : Type 0 where
  pub range : IsRange text from end
  pub spaces : (k : ℕ) → from ≤ k → k < end → is_space (slice_index text k) ≡ true

-- the rest of a line, without the line feed at its end
pub record IsRestOfLine (text : List ℕ) (from end : ℕ) : Type 0 where
  pub range : IsRange text from end
  pub in_line : (k : ℕ) → from ≤ k → k < end → slice_index text k ≢ feed
  pub ends : (end ≡ length text) ⊎ (slice_index text end ≡ feed)

-- // to the end of the line
pub record IsLineComment (text : List ℕ) (from end : ℕ) : Type 0 where
  pub first : slice_index text from ≡ slash
  pub second : slice_index text (from + 1) ≡ slash
  pub rest : IsRestOfLine text from end

-- a comment of a block ends at this place
abbrev pub IsBlockEnd : List ℕ → ℕ → Type 0
IsBlockEnd text place = (slice_index text place ≡ star) × (slice_index text (place + 1) ≡ slash)

-- /* to the first */ after it, which is at a place
pub record IsBlockComment (text : List ℕ) (from end : ℕ) : Type 0 where
  pub first : slice_index text from ≡ slash
  pub second : slice_index text (from + 1) ≡ star
  pub place : ℕ
  pub behind : from + 2 ≤ place
  pub ends : IsBlockEnd text place
  pub is_first : (k : ℕ) → from + 2 ≤ k → k < place → ¬ IsBlockEnd text k
  pub is : end ≡ place + 2
  pub range : IsRange text from end

-- only spaces and tabs are before a place in its line, which begins at another
pub record IsFirstInLine (text : List ℕ) (place : ℕ) : Type 0 where
  pub start : ℕ
  pub before : start ≤ place
  pub begins : (start ≡ 0) ⊎ ((k : ℕ) × (start ≡ k + 1) × (slice_index text k ≡ feed))
  pub blank : (k : ℕ) → start ≤ k → k < place → (slice_index text k ≡ space) ⊎ (slice_index text k ≡ tab)

-- # as the first byte of its line but spaces and tabs, then spaces and a digit, and the rest of the line
pub record IsLineMarker (text : List ℕ) (from end : ℕ) : Type 0 where
  pub is_first : IsFirstInLine text from
  pub mark : slice_index text from ≡ hash
  pub place : ℕ
  pub behind : from < place
  pub spaces : (k : ℕ) → from < k → k < place → slice_index text k ≡ space
  pub digit : is_ascii_digit (slice_index text place) ≡ true
  pub rest : IsRestOfLine text from end

pub data MeansNothing (text : List ℕ) (from end : ℕ) : Type 0 where
  white_space : IsWhiteSpace text from end → MeansNothing text from end
  line_comment : IsLineComment text from end → MeansNothing text from end
  block_comment : IsBlockComment text from end → MeansNothing text from end
  line_marker : IsLineMarker text from end → MeansNothing text from end

-- white space, comments and line markers, one after the other
pub data IsGap (text : List ℕ) : ℕ → ℕ → Type 0 where
  nothing : (place : ℕ) → IsGap text place place
  behind : (from middle end : ℕ) → MeansNothing text from middle → IsGap text middle end → IsGap text from end

-- ---- between tokens

-- a gap leads from a place to a fault, which is reported with its line
pub record IsFault (text : List ℕ) (from : ℕ) (fault : Refusal) : Type 0 where
  pub place : ℕ
  pub gap : IsGap text from place
  pub within : place < length text
  pub line : fault.line ≡ line_of text place

-- from a place on: before each token, after the last one and before the fault is a gap
abbrev pub StandApart : List ℕ → ℕ → List Token → Option Refusal → Type 0
StandApart text place [] None = IsGap text place (length text)
StandApart text place [] (Some fault) = IsFault text place fault
StandApart text place (token ∷ tokens) fault = IsGap text place token.start × StandApart text token.end tokens fault

abbrev pub TokensStandApart : Type 0
TokensStandApart = (text : List ℕ) → StandApart text 0 (tokens_of text).0 (tokens_of text).1
