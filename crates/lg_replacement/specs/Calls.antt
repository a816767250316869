-- What a name with parameters is replaced by, and what ## puts together, in the words of the C standard (6.10.3, 6.10.3.1 and 6.10.3.3).
use Rattle.std.specs.Prelude.{◌≡◌, ℕ, suc, Bool, true, false, ◌||◌, List, [], ◌∷◌, ◌++◌, length, map, replicate, slice_get, slice_index_or, Some, None, Ok, ◌⊎◌}
use Rattle.std.specs.List.{AllByRecursion}
use Rattle.lg_base.specs.Refusals.{◌>>=◌}
use Rattle.lg_macro.specs.Arguments.{feed, in_argument}
use Rattle.lg_macro.specs.Cutting.{cut}
use Rattle.lg_replacement.specs.Expansion.{Given, named, expand_in}
use Rattle.lg_macro.specs.Macros.{counted}
use Rattle.lg_macro.specs.Pieces.{Piece, is_byte, is_white, on_line}
use Rattle.lg_replacement.specs.Replacements.{is_hidden}
use Rattle.lg_macro.specs.Text.{bytes_of, feeds_of}
use Rattle.lg_macro.specs.declared.macros.Macro.{Macro}
use Rattle.lg_macro.specs.declared.macros.Mark.{Mark}

-- ---- calls

-- pieces in which parentheses match; a comma is outside of them only where that is allowed
pub data IsBalanced : Bool → List Piece → Type 0 where
  empty : (commas : Bool) → IsBalanced commas []
  other : (commas : Bool) (p : Piece) (rest : List Piece) → is_byte 40 p.kind ≡ false → is_byte 41 p.kind ≡ false → (is_byte 44 p.kind ≡ true → commas ≡ true)
      → IsBalanced commas rest → IsBalanced commas (p ∷ rest)
  group : (commas : Bool) (left : Piece) (inside : List Piece) (right : Piece) (rest : List Piece) → is_byte 40 left.kind ≡ true → is_byte 41 right.kind ≡ true
      → IsBalanced true inside → IsBalanced commas rest → IsBalanced commas (left ∷ (inside ++ (right ∷ rest)))

-- parts with a comma between each two
pub data IsParted : List Piece → List (List Piece) → Type 0 where
  last : (part : List Piece) → IsBalanced false part → IsParted part (part ∷ [])
  next : (part : List Piece) (comma : Piece) (rest : List Piece) (parts : List (List Piece)) → IsBalanced false part → is_byte 44 comma.kind ≡ true
      → IsParted rest parts → IsParted (part ++ (comma ∷ rest)) (part ∷ parts)

abbrev pub AreWhite : List Piece → Type 0
AreWhite pieces = AllByRecursion (λ p. is_white p.kind ≡ true) pieces

-- pieces without the white space at their ends
pub record IsStripped (pieces inner : List Piece) : Type 0 where
  pub before : List Piece
  pub behind : List Piece
  pub is : pieces ≡ before ++ (inner ++ behind)
  pub white_before : AreWhite before
  pub white_after : AreWhite behind
  pub begins : (p : Piece) (more : List Piece) → inner ≡ p ∷ more → is_white p.kind ≡ false
  pub ends : (more : List Piece) (p : Piece) → inner ≡ more ++ (p ∷ []) → is_white p.kind ≡ false

-- each part is an argument: on the line of the call, with a space for each comment and line feed, and without the white space at its ends
abbrev pub AreArguments : ℕ → List (List Piece) → List (List Piece) → Type 0
AreArguments line [] [] = Unit {0}
AreArguments line (part ∷ parts) (argument ∷ more) = IsStripped (map (in_argument line) part) argument × AreArguments line parts more
AreArguments line parts arguments = ⊥

-- there are as many as parameters; with no parameter, one that is empty is none
abbrev pub AreSoMany : ℕ → (given arguments : List (List Piece)) → Type 0
AreSoMany arity given arguments = ((arguments ≡ given) × (length given ≡ arity)) ⊎ ((arity ≡ 0) × (given ≡ [] ∷ []) × (arguments ≡ []))

-- the pieces after a name are a call of it with these arguments: white space, and arguments in parentheses
pub record IsCall (line arity : ℕ) (call : List Piece) (arguments : List (List Piece)) : Type 0 where
  pub white : List Piece
  pub left : Piece
  pub inside : List Piece
  pub right : Piece
  pub parts : List (List Piece)
  pub given : List (List Piece)
  pub is : call ≡ white ++ (left ∷ (inside ++ (right ∷ [])))
  pub is_space : AreWhite white
  pub opens : is_byte 40 left.kind ≡ true
  pub closes : is_byte 41 right.kind ≡ true
  pub parted : IsParted inside parts
  pub stripped : AreArguments line parts given
  pub many : AreSoMany arity given arguments

-- ---- arguments in place of parameters, and ##

-- what a piece of a body denotes: itself, or the argument of its parameter, which beside ## is as it is written, and else expanded
pub record StandsFor (line : ℕ) (raw full : List (List Piece)) (p : Piece) (mark : Mark) (part : List Piece) : Type 0 where
  pub itself : mark.parameter ≡ None → part ≡ on_line line p ∷ []
  pub beside : (k : ℕ) → mark.parameter ≡ Some k → (mark.glued || mark.glues) ≡ true → part ≡ slice_index_or raw k []
  pub apart : (k : ℕ) → mark.parameter ≡ Some k → (mark.glued || mark.glues) ≡ false → part ≡ slice_index_or full k []

-- what is on both sides of a ## put together: the last piece and the first one are one text, that is cut anew; and nothing is put to the other side
pub record IsPasted (line : ℕ) (before behind both : List Piece) : Type 0 where
  pub none_before : before ≡ [] → both ≡ behind
  pub none_behind : behind ≡ [] → both ≡ before
  pub pasted : (front : List Piece) (x y : Piece) (back : List Piece) → before ≡ front ++ (x ∷ []) → behind ≡ y ∷ back
      → both ≡ front ++ (cut line (x.text ++ y.text) ++ back)

-- a ## is before each of these parts: they are put together from the left
abbrev pub ArePasted : ℕ → List Piece → List (List Piece) → List Piece → Type 0
ArePasted line first [] whole = whole ≡ first
ArePasted line first (part ∷ parts) whole = (both : List Piece) × IsPasted line first part both × ArePasted line both parts whole

-- pieces of a body before each of which a ## stands, with what they denote
abbrev pub AreGlued : ℕ → (raw full : List (List Piece)) → List Piece → List Mark → List (List Piece) → Type 0
AreGlued line raw full [] [] [] = Unit {0}
AreGlued line raw full (p ∷ body) (mark ∷ marks) (part ∷ parts) =
    (mark.glued ≡ true) × StandsFor line raw full p mark part × AreGlued line raw full body marks parts
AreGlued line raw full body marks parts = ⊥

-- a body with its arguments: each piece denotes what it denotes, and pieces with ## between them for all of it put together
pub data IsFilled (line : ℕ) (raw full : List (List Piece)) : List Piece → List Mark → List Piece → Type 0 where
  bare : IsFilled line raw full [] [] []
  chain : (p : Piece) (mark : Mark) (first glued : List Piece) (marked : List Mark) (parts : List (List Piece))
      → (whole body : List Piece) (marks : List Mark) (out : List Piece)
      → mark.glued ≡ false → StandsFor line raw full p mark first → AreGlued line raw full glued marked parts → ArePasted line first parts whole
      → IsFilled line raw full body marks out → IsFilled line raw full (p ∷ (glued ++ body)) (mark ∷ (marked ++ marks)) (whole ++ out)

-- no ## is before the first piece of a body
abbrev pub BeginsApart : List Mark → Type 0
BeginsApart [] = Unit {0}
BeginsApart (mark ∷ marks) = mark.glued ≡ false

-- ---- the laws

-- each body can be filled, whatever the arguments
abbrev pub BodiesAreFilled : Type 0
BodiesAreFilled = (line : ℕ) (raw full : List (List Piece)) (body : List Piece) (marks : List Mark) → length marks ≡ length body → BeginsApart marks
    → (out : List Piece) × IsFilled line raw full body marks out

-- each argument is expanded by itself, one after the other, as if it were the rest of the text
abbrev pub AreExpanded : List Macro → (n line : ℕ) (hidden : List ℕ) → ℕ → (raw full : List (List Piece)) → ℕ → Type 0
AreExpanded table n line hidden sum [] [] sum' = sum' ≡ sum
AreExpanded table n line hidden sum (a ∷ raw) (f ∷ full) sum' =
    (more : ℕ) × (expand_in table n line hidden a ([], sum) ≡ Ok (f, more)) × AreExpanded table n line hidden more raw full sum'
AreExpanded table n line hidden sum raw full sum' = ⊥

-- the line feeds of a call, on its line
abbrev pub feeds_after : ℕ → List Piece → List Piece
feeds_after line call = replicate (feeds_of (bytes_of call)) (feed line)

-- a piece names this macro, which is not hidden
pub record Names (table : List Macro) (hidden : List ℕ) (p : Piece) (place : ℕ) (m : Macro) : Type 0 where
  pub named : named table p ≡ Some place
  pub macro : slice_get table place ≡ Some m
  pub shown : is_hidden hidden place ≡ false

-- a name without parameters is replaced by its body with all put together between which ## stands, which is scanned again with the name hidden
abbrev pub PastedBodiesReplaceNames : Type 0
PastedBodiesReplaceNames = (table : List Macro) (n line place : ℕ) (hidden : List ℕ) (p : Piece) (m : Macro) (rest out : List Piece) (given : Given)
    → Names table hidden p place m → m.arity ≡ None → IsFilled p.line [] [] m.body m.marks out
    → expand_in table (suc n) line hidden (p ∷ rest) given
    ≡ ((counted p.line m given.1 >>= (λ sum. expand_in table n p.line (hidden ++ place ∷ []) out (given.0, sum))) >>= expand_in table (suc n) line hidden rest)

-- a name with parameters, and a call of it after the name: both are replaced by the body with the arguments in it, which is scanned again with the name
-- hidden; the line feeds of the call follow, and then what is after the call
abbrev pub CallsReplaceNames : Type 0
CallsReplaceNames = (table : List Macro) (n line place arity : ℕ) (hidden : List ℕ) (p : Piece) (m : Macro) (call rest : List Piece) (given : Given)
    (sum sum' : ℕ) (raw full : List (List Piece)) (out : List Piece)
    → Names table hidden p place m → m.arity ≡ Some arity → IsCall p.line arity call raw
    → counted p.line m given.1 ≡ Ok sum → AreExpanded table n p.line hidden sum raw full sum' → IsFilled p.line raw full m.body m.marks out
    → expand_in table (suc n) line hidden (p ∷ (call ++ rest)) given
    ≡ (expand_in table n p.line (hidden ++ place ∷ []) out (given.0, sum')
    >>= (λ done. expand_in table (suc n) line hidden rest (done.0 ++ feeds_after p.line call, done.1)))
