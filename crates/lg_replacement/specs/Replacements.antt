-- What the name of a macro is replaced by, in the words of the C standard (6.10.3 and 6.10.3.4).
use Rattle.std.specs.Prelude.{◌≡◌, ◌==◌, ℕ, suc, Bool, true, false, List, [], ◌∷◌, ◌++◌, length, map, slice_get, Some, None, Ok}
use Rattle.std.specs.List.{AllByRecursion, list_any}
use Rattle.lg_base.specs.Refusals.{◌>>=◌}
use Rattle.lg_replacement.specs.Expansion.{Given, named, expand_in}
use Rattle.lg_macro.specs.Macros.{counted}
use Rattle.lg_macro.specs.Pieces.{Piece, froze, on_line}
use Rattle.lg_macro.specs.declared.macros.Macro.{Macro}
use Rattle.lg_macro.specs.declared.macros.Mark.{Mark}

-- ---- what names no macro
abbrev pub NameNothing : List Macro → List Piece → Type 0
NameNothing table pieces = AllByRecursion (λ p. named table p ≡ None) pieces

-- it stays as it is
abbrev pub OthersStay : Type 0
OthersStay = (table : List Macro) (n line : ℕ) (hidden : List ℕ) (pieces : List Piece) (given : Given) → NameNothing table pieces
    → expand_in table (suc n) line hidden pieces given ≡ Ok (given.0 ++ pieces, given.1)

-- ---- a name that is hidden, since it is inside of its own replacement
abbrev pub is_hidden : List ℕ → ℕ → Bool
is_hidden hidden place = list_any (λ h. h == place) hidden

-- it stays, and it is no longer available for further replacement
abbrev pub HiddenNamesStay : Type 0
HiddenNamesStay = (table : List Macro) (n line place : ℕ) (hidden : List ℕ) (p : Piece) (m : Macro) (rest : List Piece) (given : Given)
    → named table p ≡ Some place → slice_get table place ≡ Some m → is_hidden hidden place ≡ true
    → (expand_in table (suc n) line hidden (p ∷ rest) given ≡ expand_in table (suc n) line hidden rest (given.0 ++ froze p ∷ [], given.1))
    × ((later : List Macro) → named later (froze p) ≡ None)

-- ---- a name without parameters, whose body has no ##
abbrev pub StandsForItself : Mark → Type 0
StandsForItself mark = (mark.glued ≡ false) × (mark.parameter ≡ None)

pub record IsPlain (m : Macro) : Type 0 where
  pub object : m.arity ≡ None
  pub marked : length m.marks ≡ length m.body
  pub plain : AllByRecursion StandsForItself m.marks

-- its body is in its place, on its line, and is scanned again for further names with this one hidden; what follows comes after it
abbrev pub BodiesReplaceNames : Type 0
BodiesReplaceNames = (table : List Macro) (n line place : ℕ) (hidden : List ℕ) (p : Piece) (m : Macro) (rest : List Piece) (given : Given)
    → named table p ≡ Some place → slice_get table place ≡ Some m → is_hidden hidden place ≡ false → IsPlain m
    → expand_in table (suc n) line hidden (p ∷ rest) given
    ≡ ((counted p.line m given.1 >>= (λ sum. expand_in table n p.line (hidden ++ place ∷ []) (map (on_line p.line) m.body) (given.0, sum)))
    >>= expand_in table (suc n) line hidden rest)
