-- Pieces that ## puts together.
use Rattle.std.specs.Prelude.{ℕ, List, [], ◌∷◌, ◌++◌}
use Rattle.lg_macro.specs.Cutting.{cut}
use Rattle.lg_macro.specs.Pieces.{Piece}

-- pieces and those that ## puts after them: the last one and the first one are put together and cut anew. No pieces leave the others alone
unfoldable pub joined : ℕ → List Piece → List Piece → List Piece
joined line [] part = part
joined line (p ∷ now) [] = p ∷ now
joined line (p ∷ []) (q ∷ behind) = cut line (p.text ++ q.text) ++ behind
joined line (p ∷ r ∷ now) (q ∷ behind) = p ∷ joined line (r ∷ now) (q ∷ behind)
