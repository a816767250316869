-- A format as a list of pieces: how each is spelled, and what it prints.
use Rattle.std.specs.Prelude.{◌≡◌, ◌≢◌, ℕ, ◌+◌, ◌-◌, ◌*◌, ◌==◌, ◌⊎◌, ◌≤◌, Bool, false, List, [], ◌∷◌, ◌++◌, Option, Some, None, ⊤}
use Rattle.std.specs.List.{list_any}
use Rattle.std.specs.Fmt.{◌++?◌}
use Rattle.lg_io.specs.declared.digits.Radix.TheVariants as radix
use Rattle.lg_host.specs.Runs.{Bytes}
use Rattle.lg_host.specs.Printed.{converted, printed}
use Rattle.lg_host.specs.declared.format.Style.{Style}
use Rattle.lg_host.specs.declared.format.Size.{Size}
use Rattle.lg_host.specs.declared.format.Size.TheVariants as size
use Rattle.lg_host.specs.declared.format.Kind.{Kind}
use Rattle.lg_host.specs.declared.format.Kind.TheVariants as kind
use Rattle.lg_host.specs.declared.format.Reading.TheVariants as reading

-- ---- lengths and letters
-- no letter, hh, h, l, ll
pub data Length : Type 0 where
  Int : Length
  Char : Length
  Short : Length
  Long : Length
  LongLong : Length

abbrev pub length_bytes : Length → List ℕ
length_bytes Int = []
length_bytes Char = 104 ∷ 104 ∷ []
length_bytes Short = 104 ∷ []
length_bytes Long = 108 ∷ []
length_bytes LongLong = 108 ∷ 108 ∷ []

abbrev pub size_of : Length → Size
size_of Int = size.Int
size_of Char = size.Byte
size_of Short = size.Short
size_of Long = size.Long
size_of LongLong = size.Long

-- d i u x X o
pub data NumberLetter : Type 0 where
  LowerD : NumberLetter
  LowerI : NumberLetter
  LowerU : NumberLetter
  LowerX : NumberLetter
  UpperX : NumberLetter
  LowerO : NumberLetter

abbrev pub number_code : NumberLetter → ℕ
number_code LowerD = 100
number_code LowerI = 105
number_code LowerU = 117
number_code LowerX = 120
number_code UpperX = 88
number_code LowerO = 111

abbrev pub number_kind : Size → NumberLetter → Kind
number_kind size LowerD = kind.Signed size
number_kind size LowerI = kind.Signed size
number_kind size LowerU = kind.Unsigned radix.Decimal size
number_kind size LowerX = kind.Unsigned radix.Hexadecimal size
number_kind size UpperX = kind.Unsigned radix.UpperHexadecimal size
number_kind size LowerO = kind.Unsigned radix.Octal size

-- c s p
pub data PlainLetter : Type 0 where
  LowerC : PlainLetter
  LowerS : PlainLetter
  LowerP : PlainLetter

abbrev pub plain_code : PlainLetter → ℕ
plain_code LowerC = 99
plain_code LowerS = 115
plain_code LowerP = 112

abbrev pub plain_kind : PlainLetter → Kind
plain_kind LowerC = kind.Character
plain_kind LowerS = kind.Text
plain_kind LowerP = kind.Pointer

-- ---- pieces
pub data Piece : Type 0 where
  -- a byte that denotes itself
  Itself : ℕ → Piece
  -- two percent signs, which print one
  Percent : Piece
  -- a number, with the flags and the digits of its width
  Number : List ℕ → List ℕ → Length → NumberLetter → Piece
  -- a byte, a string or an address, with the flags and the digits of its width
  Plain : List ℕ → List ℕ → PlainLetter → Piece

abbrev pub spelled : Piece → List ℕ
spelled (Itself b) = b ∷ []
spelled Percent = 37 ∷ 37 ∷ []
spelled (Number flags digits length letter) = 37 ∷ (flags ++ (digits ++ (length_bytes length ++ number_code letter ∷ [])))
spelled (Plain flags digits letter) = 37 ∷ (flags ++ (digits ++ plain_code letter ∷ []))

abbrev pub all_spelled : List Piece → List ℕ
all_spelled [] = []
all_spelled (p ∷ ps) = spelled p ++ all_spelled ps

-- flags are `-` and `0`, in any number and order
abbrev pub AreFlags : List ℕ → Type 0
AreFlags [] = ⊤
AreFlags (f ∷ fs) = ((f ≡ 45) ⊎ (f ≡ 48)) × AreFlags fs

abbrev pub AreDigits : List ℕ → Type 0
AreDigits [] = ⊤
AreDigits (d ∷ ds) = (48 ≤ d) × (d ≤ 57) × AreDigits ds

-- the number of digits that follow a number
abbrev pub width_of : ℕ → List ℕ → ℕ
width_of n [] = n
width_of n (d ∷ ds) = width_of (n * 10 + (d - 48)) ds

abbrev pub BeginsWithoutZero : List ℕ → Type 0
BeginsWithoutZero [] = ⊤
BeginsWithoutZero (d ∷ ds) = d ≢ 48

-- the digits of a width: none, or a number up to 4,095 that does not begin with 0
pub record IsWidth (digits : List ℕ) : Type 0 where
  pub digits_are : AreDigits digits
  pub begins : BeginsWithoutZero digits
  pub bound : width_of 0 digits ≤ 4095

-- whether a flag is there
abbrev pub has_flag : ℕ → List ℕ → Bool
has_flag flag flags = list_any (λ f. f == flag) flags

abbrev pub style_of : List ℕ → List ℕ → Style
style_of flags digits = record { left = has_flag 45 flags; zero = has_flag 48 flags; width = width_of 0 digits }

abbrev pub IsPiece : Piece → Type 0
IsPiece (Itself b) = b ≢ 37
IsPiece Percent = ⊤
IsPiece (Number flags digits length letter) = AreFlags flags × IsWidth digits
IsPiece (Plain flags digits letter) = AreFlags flags × (has_flag 48 flags ≡ false) × IsWidth digits

abbrev pub ArePieces : List Piece → Type 0
ArePieces [] = ⊤
ArePieces (p ∷ ps) = IsPiece p × ArePieces ps

-- ---- what pieces print
-- the next argument, which must be there
abbrev pub with_argument : List ℕ → (ℕ → List ℕ → Option (List ℕ)) → Option (List ℕ)
with_argument [] f = None
with_argument (word ∷ words) f = f word words

abbrev pub given : Bytes → List Piece → List ℕ → Option (List ℕ)
given m [] args = Some []
given m (Itself b ∷ ps) args = Some (b ∷ []) ++? given m ps args
given m (Percent ∷ ps) args = Some (37 ∷ []) ++? given m ps args
given m (Number flags digits length letter ∷ ps) args =
    with_argument args (λ word words. converted m (style_of flags digits) (number_kind (size_of length) letter) word ++? given m ps words)
given m (Plain flags digits letter ∷ ps) args =
    with_argument args (λ word words. converted m (style_of flags digits) (plain_kind letter) word ++? given m ps words)

-- ---- the law: a format that is spelled by pieces prints what they give, and no other format prints anything
abbrev pub PrintsItsPieces : Type 0
PrintsItsPieces = (m : Bytes) (ps : List Piece) (args : List ℕ) → ArePieces ps → printed m reading.Plain (all_spelled ps) args ≡ given m ps args

abbrev pub IsSpelledByPieces : Type 0
IsSpelledByPieces = (m : Bytes) (format args bytes : List ℕ) → printed m reading.Plain format args ≡ Some bytes
    → (ps : List Piece) × ArePieces ps × (format ≡ all_spelled ps)
