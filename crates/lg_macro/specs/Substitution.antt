-- The body of a macro with arguments in place of its parameters.
use Rattle.std.specs.Prelude.{ℕ, Bool, false, ◌||◌, if◌then◌else◌, List, [], ◌∷◌, ◌++◌, Option, Some, None, slice_index_or}
use Rattle.lg_macro.specs.Pieces.{Piece, on_line}
use Rattle.lg_macro.specs.Pasting.{joined}
use Rattle.lg_macro.specs.declared.macros.Mark.{Mark}

abbrev pub argument_at : List (List Piece) → ℕ → List Piece
argument_at arguments n = slice_index_or arguments n []

abbrev pub stands_by : List (List Piece) → ℕ → Piece → Option ℕ → List Piece
stands_by arguments line p None = on_line line p ∷ []
stands_by arguments line p (Some n) = argument_at arguments n

-- what a piece of a body denotes: itself, or an argument, expanded but beside ##
abbrev pub stands : List (List Piece) → List (List Piece) → ℕ → Piece → Mark → List Piece
stands raw full line p mark = stands_by (if mark.glued || mark.glues then raw else full) line p mark.parameter

-- the pieces of a body from one on, after those that are done and those that a further ## may yet change
unfoldable pub filled : ℕ → List Piece → List Mark → List (List Piece) → List (List Piece) → List Piece → List Piece → List Piece
filled line [] marks raw full done now = done ++ now
filled line (p ∷ body) [] raw full done now = done ++ now
filled line (p ∷ body) (mark ∷ marks) raw full done now =
    if mark.glued then filled line body marks raw full done (joined line now (stands raw full line p mark))
    else filled line body marks raw full (done ++ now) (stands raw full line p mark)

-- whether ## is before the first of the pieces that have these marks
abbrev pub glued_at : List Mark → Bool
glued_at [] = false
glued_at (mark ∷ marks) = mark.glued

unfoldable pub substituted : ℕ → List Piece → List Mark → List (List Piece) → List (List Piece) → List Piece
substituted line body marks raw full = filled line body marks raw full [] []
