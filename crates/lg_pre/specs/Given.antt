-- Bytes that are given, piece by piece.
use Rattle.std.specs.Prelude.{ℕ, zero, suc, ◌+◌, nat_lt, if◌then◌else◌, List, [], ◌∷◌, ◌++◌, length, drop, None, ◌≡◌, Result, Ok}
use Rattle.lg_replacement.specs.Expansion.{expand_in, named, step}
use Rattle.lg_base.specs.Refusals.{◌>>=◌, refuse}
use Rattle.lg_macro.specs.Macros.{most}
use Rattle.lg_macro.specs.Pieces.{Piece}
use Rattle.lg_macro.specs.Text.{feeds_in}
use Rattle.lg_macro.specs.declared.macros.Macro.{Macro}
use Rattle.lg_base.specs.declared.refusal.Refusal.{Refusal}
use Rattle.lg_base.specs.declared.refusal.RefusalKind.TheVariants.{ExpandTooMuch}

-- a text of a line after what is given: at most 16,777,216 bytes in all
abbrev pub gives_text : ℕ → List ℕ → List ℕ → Result (List ℕ) Refusal
gives_text line text given = if nat_lt most (length given + length text) then refuse ExpandTooMuch line else Ok (given ++ text)

abbrev pub gives : Piece → List ℕ → Result (List ℕ) Refusal
gives p given = gives_text p.line p.text given

unfoldable pub given_all : List Piece → List ℕ → Result (List ℕ) Refusal
given_all [] given = Ok given
given_all (p ∷ pieces) given = gives p given >>= given_all pieces

-- the lines between two directives: each outermost name is expanded, and what it gives is given, before the next one
unfoldable pub flushed : List Macro → ℕ → List Piece → List ℕ → ℕ → Result (List ℕ × ℕ) Refusal
flushed table zero pieces given sum = Ok (given, sum)
flushed table (suc k) [] given sum = Ok (given, sum)
flushed table (suc k) (p ∷ rest) given sum = step table (expand_in table 200) [] p rest ([], sum)
    >>= (λ s. given_all s.1.0 given >>= (λ more. flushed table k (drop s.0 rest) more s.1.1))

-- the line feeds of pieces alone
unfoldable pub fed : List Piece → List ℕ → Result (List ℕ) Refusal
fed [] given = Ok given
fed (p ∷ pieces) given = gives_text p.line (feeds_in p.text) given >>= fed pieces

-- no piece names a macro
abbrev pub ArePlain : List Macro → List Piece → Type 0
ArePlain table [] = Unit {0}
ArePlain table (p ∷ pieces) = (named table p ≡ None) × ArePlain table pieces
