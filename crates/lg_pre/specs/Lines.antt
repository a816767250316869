-- The lines of an expansion.
use Rattle.std.specs.Prelude.{◌≡◌, ℕ, zero, suc, ◌+◌, nat_le, true, false, List, [], ◌∷◌, ◌++◌, length, drop, Some, None, IfSome, Ok, IfOk}
use Rattle.lg_pre.specs.Conditions.{skipping}
use Rattle.lg_pre.specs.Expanded.{start, one_line, lines_in, expanded}
use Rattle.lg_replacement.specs.Expansion.{Step, named, step, expand_in}
use Rattle.lg_pre.specs.Given.{given_all, flushed}
use Rattle.lg_macro.specs.Pieces.{Piece}
use Rattle.lg_pre.specs.PlainTexts.{pieces_of}
use Rattle.lg_macro.specs.Text.{feeds_of, bytes_of, mark_in}
use Rattle.lg_pre.specs.declared.expander.Expander.{Expander}
use Rattle.lg_macro.specs.declared.macros.Macro.{Macro}
use Rattle.lg_macro.specs.declared.pieces.PieceKind.TheVariants.{Feed}

-- an expansion has as many line feeds as the text
abbrev pub LineFeedsAreKept : Type 0
LineFeedsAreKept = (text : List ℕ) → IfOk (expanded text) (λ given. feeds_of given ≡ feeds_of text)

-- bytes that begin with others
abbrev pub BeginsWith : List ℕ → List ℕ → Type 0
BeginsWith whole given = (more : List ℕ) × (whole ≡ given ++ more)

-- what is given stays: the lines between two directives, and all of a text, give further bytes after it
abbrev pub GivenBytesStay : Type 0
GivenBytesStay = ((table : List Macro) (k : ℕ) (pieces : List Piece) (given : List ℕ) (sum : ℕ)
    → IfOk (flushed table k pieces given sum) (λ next. BeginsWith next.0 given))
    × ((k : ℕ) (text : List Piece) (s : Expander) (at : ℕ) → IfOk (lines_in k text s at) (λ whole. BeginsWith whole s.given))

-- ---- the pieces of a text

-- pieces have their lines, where the first begins on this one
abbrev pub HaveLines : ℕ → List Piece → Type 0
HaveLines line [] = Unit {0}
HaveLines line (p ∷ rest) = (p.line ≡ line) × HaveLines (line + feeds_of p.text) rest

-- the pieces of a text joined are the text, and each has the line on which it begins
abbrev pub PiecesAreTheText : Type 0
PiecesAreTheText = (text : List ℕ) → (bytes_of (pieces_of text) ≡ text) × HaveLines 1 (pieces_of text)

-- ---- tokens on their lines

abbrev pub AreFeeds : List Piece → Type 0
AreFeeds [] = Unit {0}
AreFeeds (p ∷ rest) = (p.kind ≡ Feed) × AreFeeds rest

-- what a name gives is on one line: pieces without line feeds, and after them line feeds alone
pub record IsOneLine (given : List Piece) : Type 0 where
  pub made : List Piece
  pub feeds : List Piece
  pub all : given ≡ made ++ feeds
  pub none : feeds_of (bytes_of made) ≡ 0
  pub alone : AreFeeds feeds

-- one outermost piece in the lines between two directives, and what belongs to it
abbrev pub outermost : List Macro → Piece → List Piece → ℕ → Step
outermost table p rest sum = step table (expand_in table 200) [] p rest ([], sum)

-- such a piece, by the bytes that are given before it: it comes on its line, is given as it is where it names no macro, and else what
-- comes of it is on that line
pub record IsOnItsLine (table : List Macro) (p : Piece) (rest : List Piece) (given : List ℕ) (sum : ℕ) : Type 0 where
  pub line : p.line ≡ 1 + feeds_of given
  pub stays : named table p ≡ None → outermost table p rest sum ≡ Ok (0, (p ∷ [], sum))
  pub gives : (place : ℕ) → named table p ≡ Some place → IfOk (outermost table p rest sum) (λ s. IsOneLine s.1.0)

-- each outermost piece of these, at most this many, one after the other as `flushed` reaches them
unfoldable pub AreOnTheirLines : List Macro → ℕ → List Piece → List ℕ → ℕ → Type 0
AreOnTheirLines table zero pieces given sum = Unit {0}
AreOnTheirLines table (suc k) [] given sum = Unit {0}
AreOnTheirLines table (suc k) (p ∷ rest) given sum = IsOnItsLine table p rest given sum
    × IfOk (outermost table p rest sum) (λ s. IfOk (given_all s.1.0 given) (λ more. AreOnTheirLines table k (drop s.0 rest) more s.1.1))

-- the lines that wait, where they are expanded
abbrev pub AreFlushedOnLines : Expander → Type 0
AreFlushedOnLines s = skipping s.conditions ≡ false → AreOnTheirLines s.table (length s.lines) s.lines s.given s.sum

-- all of a text from a place on, as `lines_in` reaches it: what waits is expanded at each directive and at the end
unfoldable pub IsOnItsLines : ℕ → List Piece → Expander → ℕ → Type 0
IsOnItsLines zero text s at = AreFlushedOnLines s
IsOnItsLines (suc k) text s at =
    (nat_le (length text) at ≡ true → AreFlushedOnLines s)
    × (nat_le (length text) at ≡ false → IfSome (mark_in true (drop at text)) (λ n. AreFlushedOnLines s)
    × IfOk (one_line text s at) (λ next. IsOnItsLines k text next.1 next.0))

-- a token outside what is replaced keeps its line, and what a name gives is on the line of that name
abbrev pub TokensKeepTheirLines : Type 0
TokensKeepTheirLines = (text : List ℕ) → IsOnItsLines (length (pieces_of text)) (pieces_of text) start 0
